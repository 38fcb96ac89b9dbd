-- Document 01, with Jobs 1 and 3 of document 02, as definitions, in its order: a file for each section that defines something, with the section on the files in two (Words,
-- Files) and the section on the rules in three (Machine, Rules, Machines); in Demands the demands' own terms and those of Job 6.
pub mod Scales
pub mod Words
pub mod Files
pub mod Machine
pub mod Rules
pub mod Machines
pub mod Plan
pub mod Services
pub mod Broken
pub mod Demands
-- apart from these, what code and proofs use, and worked cases
pub mod Numbering
pub mod Answers
pub mod Worked
pub mod Refusals
