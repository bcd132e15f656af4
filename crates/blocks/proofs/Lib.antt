-- Laws that belong to no one function.
pub mod Searching
pub mod Scattering
