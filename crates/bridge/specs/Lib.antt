-- Rows and births name the same forest.
pub mod Parents
pub mod Rename
pub mod Columns
pub mod Sites
