-- What the searches ask of the columns, rules 1 and 2 on lengths, rows lined up by a sort, and edges by child.
pub mod Asked
pub mod Lengths
pub mod Evened
pub mod Lined
pub mod Mutual
pub mod ByChild
