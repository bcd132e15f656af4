-- From rows, which the code goes by, to births, which 01 speaks of.
pub mod Named
pub mod Rows
pub mod Ground
pub mod Kept
pub mod Result
pub mod Standing
