-- The cleaning call: what it gives and leaves, its working columns, and laws from these to the definitions.
pub mod Outcome
pub mod Sweeping
pub mod Tracing
pub mod Planning
pub mod Work
pub mod Finishing
pub mod Lists
pub mod Out
pub mod Reading
pub mod Fitting
pub mod Places
pub mod HeldEdges
pub mod HeldMutations
pub mod Holding
pub mod Results
