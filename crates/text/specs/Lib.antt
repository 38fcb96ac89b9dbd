-- The text of document 01's files: what a text reads to, and what a file is written as. Lines and fields are spoken of, never positions.
pub mod Files
-- apart from these, what code and proofs use
pub mod Tables
