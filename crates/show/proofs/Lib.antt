-- Laws of the listing program's stages.
pub mod Printing
pub mod Keeping
