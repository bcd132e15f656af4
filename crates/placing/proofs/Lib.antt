-- Laws of the mutations placed so far.
pub mod Giving
pub mod Taking
