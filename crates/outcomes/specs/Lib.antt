-- That a call's outcome fixes the code's answer and every lent cell.
pub mod Cleaning
pub mod Joining
pub mod Storing
pub mod Panels
