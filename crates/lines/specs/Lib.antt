-- What the code that reads a line computes besides the text's own definitions.
pub mod Lines
