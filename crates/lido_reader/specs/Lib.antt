pub mod Items
pub mod Specification
pub mod Found
pub mod Added
pub mod Numbers
pub mod Known
