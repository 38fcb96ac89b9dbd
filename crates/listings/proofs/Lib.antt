-- The laws of listings: levels turned, texts, the lines that a table holds, rules, and conversion.
pub mod Turning
pub mod Texts
pub mod Converting
pub mod Falling
pub mod HeldRuns
pub mod Judged
pub mod Numbers
pub mod Unique
pub mod Renaming
pub mod Written
pub mod Converted
pub mod RulesTheorems
