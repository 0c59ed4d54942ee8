pub mod UseLemmas
pub mod FirstLemmas
pub mod NumberingLemmas
pub mod SameLemmas
pub mod KeyLemmas
pub mod SetLemmas
pub mod TypeLemmas
pub mod MadeLemmas
