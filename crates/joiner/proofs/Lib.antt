-- The order of a join's rules, its result, the orders of births, and the call.
pub mod Groups
pub mod Orders
pub mod Granted
pub mod Result
pub mod Entry
