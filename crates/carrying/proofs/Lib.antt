-- Laws that belong to no one function.
pub mod Spanning
pub mod Childless
pub mod Marking
pub mod Telling
pub mod RowByRow
pub mod Beginning
pub mod Nearest
pub mod AtSite
