pub mod PhrasesLemmas
pub mod PlacesLemmas
pub mod ExpressionsLemmas
pub mod FunctionsLemmas
pub mod ComputationsLemmas
pub mod MessagesLemmas
