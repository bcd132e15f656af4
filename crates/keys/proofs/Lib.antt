-- Laws of the loops.
pub mod Placing
pub mod Once
