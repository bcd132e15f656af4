-- Laws that the proofs of this crate's functions share, and that a join leans on.
pub mod Born
pub mod Tests
pub mod Fronts
pub mod BySite
pub mod Together
pub mod Agreeing
pub mod Reading
pub mod Own
pub mod Asking
pub mod Found
