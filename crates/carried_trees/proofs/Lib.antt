pub mod FittingLemmas
pub mod CompletenessLemmas
pub mod BelowLemmas
pub mod NearestLemmas
pub mod ElementLemmas
pub mod NodeLemmas
pub mod IncludingLemmas
