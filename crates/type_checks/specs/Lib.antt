pub mod Entries
pub mod Checker
pub mod Written
pub mod Whole
