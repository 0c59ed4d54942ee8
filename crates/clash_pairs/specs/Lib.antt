pub mod Bearers
pub mod Facts
pub mod Kinds
pub mod Numbered
pub mod Twofold
