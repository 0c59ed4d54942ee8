pub mod Named
pub mod SplitNodes
