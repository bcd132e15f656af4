-- Laws that belong to no one function.
pub mod Still
pub mod Lookups
pub mod Inside
pub mod Stepping
pub mod Coming
pub mod Starting
pub mod Ending
