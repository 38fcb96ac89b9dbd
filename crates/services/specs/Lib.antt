-- The services on bytes: what each call comes to, what is replied and written, and what is promised of it.
pub mod Outcomes
pub mod Promises
pub mod Listings
-- apart from these, what each call comes to as the code has it, what the program prints, and worked cases
pub mod Calls
pub mod Program
pub mod Worked
pub mod WorkedListings
pub mod WorkedHeadroom
pub mod WorkedReserves
