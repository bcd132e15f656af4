-- Words of the parent at a position, of how far it holds and of what it is looked up in, and laws on ancestors.
pub mod Column
pub mod Ancestors
pub mod Older
pub mod Index
pub mod Single
pub mod Stretch
pub mod Holds
pub mod Lookup
pub mod Decided
pub mod Rises
