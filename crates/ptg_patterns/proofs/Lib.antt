pub mod LanguageLemmas
pub mod FrontsLemmas
pub mod ArgumentsLemmas
pub mod FirstLemmas
pub mod MeaningLemmas
pub mod OneLemmas
pub mod IdsLemmas
pub mod CountsLemmas
