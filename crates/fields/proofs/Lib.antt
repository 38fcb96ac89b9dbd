pub mod Each
pub mod PieceLaws
pub mod DigitLaws
pub mod NumberLaws
pub mod SpanLaws
pub mod SearchLaws
pub mod ReadingLaws
pub mod FieldLaws
