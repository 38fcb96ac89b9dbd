-- What the code of this crate needs besides the model's definitions.
pub mod Ranges
