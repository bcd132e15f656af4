-- Mutations and their nearest standing rows.
pub mod Placing
pub mod Movers
