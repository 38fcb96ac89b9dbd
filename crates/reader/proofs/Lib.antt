pub mod Slices
mod LineLaws
mod Filling
mod HeaderLaws
pub mod Answers
