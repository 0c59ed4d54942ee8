pub mod Inheritance
pub mod Named
pub mod Owned
pub mod Facts
pub mod Said
pub mod Written
