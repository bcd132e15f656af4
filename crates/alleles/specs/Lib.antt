-- What the reading of an allele works on, and what it finds.
pub mod Reading
pub mod Stops
pub mod ByRows
pub mod Call
