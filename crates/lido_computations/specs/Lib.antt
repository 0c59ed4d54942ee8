pub mod Phrases
pub mod Counting
pub mod Places
pub mod Expressions
pub mod Parts
pub mod Functions
pub mod Computations
pub mod Messages
