pub mod GrowthLemmas
pub mod OpenLemmas
pub mod ReadingLemmas
pub mod StoredLemmas
