pub mod BearersLemmas
pub mod FactsLemmas
pub mod KindsLemmas
pub mod NumberedLemmas
pub mod SidesLemmas
pub mod TwofoldLemmas
