pub mod Graph
pub mod Distances
pub mod Path
pub mod Cycle
pub mod Without
