pub mod NumberLemmas
pub mod TypeLemmas
pub mod TextLemmas
pub mod MadeLemmas
pub mod RowLemmas
pub mod ClassLemmas
pub mod AttributeLemmas
pub mod SymbolLemmas
