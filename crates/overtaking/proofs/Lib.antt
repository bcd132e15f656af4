-- Laws that the proofs of this crate's functions share.
pub mod Knowing
pub mod Stamping
pub mod Overtaking
pub mod Bounding
pub mod Ready
pub mod OlderFirst
pub mod Least
