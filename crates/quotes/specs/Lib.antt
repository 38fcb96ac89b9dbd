-- What a quote is, what is promised of it, and quotes worked by hand.
pub mod Quotes
pub mod Counts
pub mod Worked
