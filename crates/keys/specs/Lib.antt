-- What edges in key order are, and that two stable passes by ranks put them so.
pub mod Keys
pub mod Ranking
pub mod Passes
