-- The customer's demands.
pub mod First
pub mod Listed
pub mod Histories
pub mod Third
pub mod Shown
pub mod Demands
pub mod Wrong
