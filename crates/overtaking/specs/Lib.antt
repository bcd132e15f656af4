-- Words of rule 10 by rows: answers kept and the columns lent for them, stamps on rows, how far up they matter, and which mutations are above an earlier one.
pub mod Known
pub mod Same
pub mod Stamps
pub mod Sites
pub mod Bounds
pub mod Overtaken
pub mod Births
