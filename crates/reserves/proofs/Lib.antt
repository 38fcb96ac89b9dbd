-- The laws that the proofs of the functions cite.
pub mod Known
pub mod PairLaws
pub mod LineLaws
