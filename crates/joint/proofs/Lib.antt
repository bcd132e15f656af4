-- Columns of rows merged, the order of a join's edges, and its mutations by site.
pub mod Merged
pub mod OwnRows
pub mod Filling
pub mod Keys
pub mod Compared
pub mod KeyMerge
pub mod Ordered
pub mod Written
pub mod Anew
pub mod SiteGroups
pub mod Sites
pub mod SiteMerge
pub mod BySite
