-- The runs of the sweep: from the changing column of output parents to finished edges, each as long as it can be.
pub mod Segments
pub mod Runs
pub mod Onward
pub mod Promises
pub mod Sized
pub mod Sweep
pub mod Collected
