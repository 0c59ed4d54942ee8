pub mod SiteLemmas
pub mod PlaceLemmas
pub mod FoldLemmas
pub mod LeafLemmas
pub mod AddedLemmas
pub mod TermLemmas
