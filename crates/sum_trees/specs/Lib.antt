pub mod Bytes
pub mod Marks
pub mod Trees
pub mod Fronts
pub mod Steps
