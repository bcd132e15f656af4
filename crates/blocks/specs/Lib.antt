-- A panel's two lists, and its block: where its cells stand.
pub mod Block
pub mod Lists
