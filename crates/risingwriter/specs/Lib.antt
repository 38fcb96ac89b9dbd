-- A schedule written in the rising-level dialect: the listing, what is promised of it, and what a call comes to as the code has it.
pub mod GoingOut
-- apart from this, what the code uses, and worked cases
pub mod Calls
pub mod Worked
