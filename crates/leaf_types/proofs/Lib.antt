pub mod TypeLemmas
pub mod MoreLemmas
pub mod SingleLemmas
pub mod NumberLemmas
pub mod RowLemmas
pub mod UnevenLemmas
pub mod LeafLemmas
