-- Laws of a column that is filled row by row.
pub mod Giving
