-- 01's stored form: laws of marks, numbers and records.
pub mod Posts
pub mod Refusals
pub mod Numbers
pub mod Marks
pub mod Records
