pub mod Constituents
pub mod Types
pub mod Attributes
pub mod Messages
pub mod Rows
pub mod Symbols
