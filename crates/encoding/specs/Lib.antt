-- A strictly key-sorted list of longest edges that covers every nearest-standing parent is the list of cleaned edges.
pub mod Ascending
pub mod Runs
pub mod Edges
pub mod Quiet
