pub mod Comparing
pub mod Lines
