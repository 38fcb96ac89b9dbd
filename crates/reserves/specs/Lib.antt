-- What the walk over a circuit needs besides the model's definitions.
pub mod Pairs
pub mod Walks
