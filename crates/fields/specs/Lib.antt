pub mod Pieces
pub mod Numbers
-- apart from these, what the code uses
pub mod Digits
pub mod Places
