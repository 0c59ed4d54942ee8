pub mod Walks
pub mod Comps
pub mod Attrs
pub mod Needed
pub mod Expanded
