pub mod WellFormedGrammar
