mod Converting
pub mod SameScales
