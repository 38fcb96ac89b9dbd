-- The laws of rows, each stated once, for every kind of file.
pub mod Cases
pub mod Tests
pub mod FieldLaws
pub mod FormLaws
pub mod LineLaws
pub mod LengthLaws
pub mod RowLaws
pub mod MapLaws
