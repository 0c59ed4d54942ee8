pub mod Sets
pub mod Rows
pub mod Classes
pub mod Steps
pub mod Faults
pub mod Goals
pub mod Verdicts
