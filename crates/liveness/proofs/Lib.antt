mod Tests
pub mod Scans
pub mod Naming
mod Counting
pub mod Peaks
pub mod Bytes
