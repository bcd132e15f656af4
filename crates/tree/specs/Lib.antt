-- The tree at a position, kept while edges enter and leave: its columns, and what they mean by the definitions.
pub mod Sweep
pub mod TreeAt
