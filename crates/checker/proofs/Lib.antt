-- Laws of the order of the rules, and of what a check that is done has found.
pub mod Order
pub mod Rows
pub mod After
pub mod Handing
pub mod Sound
pub mod Whole
pub mod Sites
pub mod Callers
