pub mod Statuses
pub mod Names
pub mod Lines
pub mod Writing
pub mod Report
pub mod CycleLines
