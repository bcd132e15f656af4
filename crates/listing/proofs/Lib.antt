-- Laws of the listing's bytes and of bytes written one after the other.
pub mod Digits
pub mod Writing
pub mod Going
pub mod Pieces
pub mod Bounds
