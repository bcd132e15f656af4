-- The tree's columns row by row: which rows live and stand, lines upwards, what is written along them, and the state between two edges.
pub mod Right
pub mod Line
pub mod Labels
pub mod Turns
pub mod Kept
pub mod Listing
