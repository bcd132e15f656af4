-- The sweep along the chromosome: what is asked of its columns, what they hold on the way and at the end, and what meets it.
pub mod Columns
pub mod Sweeping
pub mod Met
