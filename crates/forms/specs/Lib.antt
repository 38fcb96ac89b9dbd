pub mod Along
pub mod Asked
