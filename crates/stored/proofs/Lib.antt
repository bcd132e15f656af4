-- Laws for the proofs of the code, over plain lists and numbers.
pub mod Rooming
pub mod Returning
pub mod Admitting
pub mod Writing
