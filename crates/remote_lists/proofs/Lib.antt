pub mod OptionLemmas
pub mod ReachLemmas
pub mod ListingLemmas
pub mod SourceLemmas
pub mod PathLemmas
