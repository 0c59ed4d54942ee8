pub mod Growth
pub mod Regions
pub mod Stored
