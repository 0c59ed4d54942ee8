pub mod Inputs
pub mod Named
pub mod Entries
pub mod Slots
