-- The third demand proved, and that its premise can be met.
pub mod Third
pub mod DemandThree
pub mod Shown
