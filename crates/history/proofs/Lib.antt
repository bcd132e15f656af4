-- Demand 3 proved.
pub mod Run
pub mod Calls
