-- Document 02, Job 2: listings in the rising-level dialect. Their lines and texts, their rules, what a broken rule means, and their
-- conversion to schedules.
pub mod Listings
pub mod Rules
pub mod Broken
pub mod Conversion
-- apart from these, what code and proofs use
pub mod Held
