-- What is live in a schedule, as four services: what is promised of each, and what a call comes to as the code has it.
pub mod Dropping
-- apart from this, what the code uses, and worked cases
pub mod Calls
pub mod Worked
