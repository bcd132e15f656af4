-- Laws of the tree's columns.
pub mod OneEdge
pub mod Up
pub mod Entering
pub mod Leaving
pub mod LowsEntering
pub mod LowsLeaving
pub mod Edges
pub mod Seeing
pub mod Sweeping
pub mod Reaching
pub mod Placing
pub mod Meaning
pub mod Lowering
pub mod Moving
pub mod Checking
