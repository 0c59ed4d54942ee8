pub mod OutcomeLemmas
pub mod HandedLemmas
pub mod DistinctLemmas
pub mod ResultLemmas
pub mod StandsLemmas
