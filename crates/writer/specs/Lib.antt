-- What writing a file comes to.
pub mod Writing
