mod Counting
pub mod Promise
mod Laws
pub mod Cases
