-- Laws that the proofs of this crate's functions share.
pub mod Skipping
pub mod Finding
pub mod Stretching
