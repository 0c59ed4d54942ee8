pub mod Coordinates
pub mod Expressions
