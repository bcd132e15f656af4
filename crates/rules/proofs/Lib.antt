-- Laws of the searches for broken rows, each stated once.
pub mod Laws
pub mod Rows
pub mod ByLengths
pub mod Halving
pub mod Neighbours
pub mod Sorting
