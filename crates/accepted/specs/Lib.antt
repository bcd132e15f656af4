-- What an answer 0 tells: the checks' tests turned into facts, and the facts into those of the records.
pub mod Refusals
pub mod Orders
pub mod Tests
pub mod Checked
pub mod Columns
pub mod Records
pub mod Batches
pub mod Joins
pub mod Rooms
pub mod Calls
pub mod Numbers
pub mod Endings
