pub mod Search
pub mod Columns
