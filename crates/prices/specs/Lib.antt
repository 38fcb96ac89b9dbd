-- The price of a schedule, what the code makes of a line, and the price worked by hand.
pub mod Prices
pub mod Levels
pub mod Worked
