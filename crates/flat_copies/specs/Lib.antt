pub mod Ops
pub mod Copied
