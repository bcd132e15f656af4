-- What the check finds of tables that it does not refuse, and one group of rules after another.
pub mod Found
pub mod Then
pub mod Aged
pub mod Evened
