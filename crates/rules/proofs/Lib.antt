pub mod Counted
mod Operands
mod Checking
pub mod Downscales
