-- What goes out comes back and keeps the dialect's rules, the promise, and the worked cases.
pub mod Turned
pub mod Outgoing
pub mod Levels
pub mod Steps
pub mod Promise
pub mod Cases
