-- The theorems' statements, each in a file of its own. They name only definitions of specs/ and of the libraries; Theorems has the proofs.
pub mod Inverse
pub mod Refusals
pub mod Deciding
pub mod WorkedCases
