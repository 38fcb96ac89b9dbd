pub mod SignedNumbers
pub mod BoundLaws
