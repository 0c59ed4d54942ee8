pub mod Toy
pub mod Rows
