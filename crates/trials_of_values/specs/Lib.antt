pub mod Samples
pub mod Tables
pub mod Graphs
pub mod Systems
pub mod Kinds
