pub mod SymbolAims
pub mod RuleAims
pub mod KeyLemmas
