pub mod LineLaws
pub mod Walking
pub mod Filling
pub mod Comparing
