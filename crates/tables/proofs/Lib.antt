pub mod Amounts
pub mod Beside
pub mod HeldLines
pub mod Records
pub mod Words
