pub mod Single
pub mod Tables
pub mod Entries
pub mod Heirs
pub mod Uneven
pub mod Types
