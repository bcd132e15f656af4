-- Columns of one block of words: what is read and written, what stays, and a column lent as a plain slice.
pub mod Columns
pub mod Lent
pub mod Names
pub mod Behind
