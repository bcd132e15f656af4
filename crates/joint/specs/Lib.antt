-- What the checks of a batch ask of the base, two columns of rows merged, and by rows the edges in key order and the mutations by site.
pub mod Merging
pub mod Asked
pub mod Sorting
pub mod Mutations
