mod Laws
mod Pricing
pub mod Cases
