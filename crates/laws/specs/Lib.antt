-- Laws that definitions, code and theorems lean on, each stated once.
pub mod Bools
pub mod Counting
pub mod Members
pub mod Facts
pub mod Passing
