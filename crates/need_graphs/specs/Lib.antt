pub mod Starts
pub mod Reads
pub mod Users
pub mod Clear
pub mod Contexts
