-- What the functions around the sweep promise, and laws from the sweep's finished edges to the rows kept and from the places to the node map.
pub mod Fronts
pub mod Others
pub mod Places
pub mod Standing
pub mod Mapped
