pub mod Flattening
pub mod Carry
pub mod Holds
