pub mod Faults
pub mod Parts
pub mod Indices
pub mod Unknown
pub mod Roots
pub mod Doubles
pub mod Limits
pub mod Phases
