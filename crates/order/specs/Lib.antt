-- What the sort promises, what its parts promise, and laws that equate what it leaves with the definitions' sort.
pub mod Order
pub mod Keyed
pub mod Heap
pub mod Lex
pub mod Counts
pub mod Laws
pub mod Mapped
pub mod Tables
pub mod Digits
pub mod Which
pub mod Deals
pub mod Dealing
pub mod Stable
pub mod Sorts
pub mod Ranks
