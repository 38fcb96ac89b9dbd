pub mod Records
pub mod Bests
pub mod Files
