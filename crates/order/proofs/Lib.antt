-- Laws of moving cells, of heaps and of the passes by digits, over plain lists and numbers.
pub mod Moves
pub mod Heaps
pub mod Places
pub mod Scans
pub mod Lookup
