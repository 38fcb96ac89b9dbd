pub mod Linear
pub mod Ring
