-- What every fish of a list carries at one site, by rows, and what is kept from site to site.
pub mod Spans
pub mod Kids
pub mod Same
pub mod Cells
pub mod Work
pub mod Children
pub mod Stamped
pub mod Told
pub mod Column
pub mod Fresh
pub mod Lent
