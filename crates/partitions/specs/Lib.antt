pub mod Peeling
pub mod Symbols
pub mod Graph
pub mod Search
pub mod RuleGraph
pub mod Parts
