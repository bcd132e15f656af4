-- Laws for the loops: cells filled in turn, rows collected and put in order, places given.
pub mod Cells
pub mod Collecting
pub mod Ordering
pub mod Placing
