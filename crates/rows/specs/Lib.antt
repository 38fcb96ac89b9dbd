-- Every file of the documents: what a line's fields hold, the form of a line, a text as lines, and a file as rows.
pub mod Fields
pub mod Forms
pub mod Lines
pub mod Rows
-- apart from these, lines that begin with no word
pub mod Wordless
