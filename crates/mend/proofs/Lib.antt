-- Laws of counts, sums and lines.
pub mod Totals
pub mod Reading
pub mod Mending
pub mod Labelling
pub mod Lows
pub mod Turning
pub mod Only
pub mod Climbing
pub mod Falling
pub mod Touching
