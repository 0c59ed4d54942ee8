pub mod Needed
pub mod Extras
pub mod Expanded
