-- Rules 20 and 21 on lengths, what rule 26 asks, what looks at no population, and what helps to find a birth.
pub mod Lengths
pub mod Joint
pub mod Asked
pub mod Aged
pub mod Helping
