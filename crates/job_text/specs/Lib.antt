pub mod Lines
pub mod Cutting
pub mod Generator
pub mod Forms
pub mod CommandLine
