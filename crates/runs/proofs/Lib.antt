-- Laws that belong to no one function.
pub mod Turning
pub mod Storing
pub mod Settling
pub mod Changing
pub mod Closing
