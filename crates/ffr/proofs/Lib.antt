-- Laws of the calls from C: numbers that four bytes hold, and what a call gives and leaves.
pub mod Rows
pub mod Packing
pub mod Cleaning
pub mod BatchRows
pub mod Joining
pub mod Panels
