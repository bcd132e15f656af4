-- What a join asks and leaves, and the orders of births.
pub mod Joinable
pub mod Outcome
pub mod Orders
