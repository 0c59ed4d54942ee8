pub mod CollectedLemmas
pub mod NumbersLemmas
pub mod FromTextLemmas
pub mod PlacesLemmas
pub mod DifferentLemmas
