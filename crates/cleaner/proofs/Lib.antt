-- Laws of the cleaning call: what is written, and the rows kept and their order.
pub mod Storing
pub mod Ranking
pub mod Tracing
pub mod Filling
pub mod Working
pub mod Calling
pub mod Finishing
