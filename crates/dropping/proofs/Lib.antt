mod Tests
mod Laws
pub mod Promise
