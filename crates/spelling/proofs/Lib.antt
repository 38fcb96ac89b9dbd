-- The laws that the proofs of the functions cite.
pub mod Puts
pub mod Taking
pub mod Lengths
pub mod Digits
pub mod Signs
pub mod Amounts
pub mod Fields
