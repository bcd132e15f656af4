-- Laws for the loops that write: the front of a column filled in turn, the order of the tables.
pub mod Filling
pub mod Tables
