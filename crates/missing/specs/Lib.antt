-- Marks on node rows, what a look upwards stands on, and what a row that is missing lacks.
pub mod Marks
pub mod Climbable
pub mod Alone
