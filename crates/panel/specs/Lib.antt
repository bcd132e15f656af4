-- What the single calls answer, and the bytes by rows.
pub mod Rows
pub mod Whole
pub mod Singles
