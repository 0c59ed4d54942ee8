pub mod Places
pub mod ComputationLemmas
pub mod GrammarLemmas
