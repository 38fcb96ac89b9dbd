-- What writing a text into a buffer comes to, and what takes texts.
pub mod Put
pub mod Sinks
