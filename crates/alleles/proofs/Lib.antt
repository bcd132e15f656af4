-- Laws that belong to no one function.
pub mod Filling
pub mod Climbing
pub mod Calling
pub mod Whole
