pub mod NoArgument
pub mod WellFormedGrammars
