-- Laws for the proofs of the code, over plain lists and numbers.
pub mod Walking
pub mod Chaining
pub mod Filling
pub mod Laying
