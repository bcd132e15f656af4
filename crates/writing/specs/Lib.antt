-- What is written to lent columns: renamed rows, and the room for a result.
pub mod Renamed
pub mod Room
pub mod Block
