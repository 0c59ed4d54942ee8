pub mod WrittenLemmas
pub mod EntryLemmas
pub mod BehindLemmas
pub mod WholeLemmas
pub mod OrderLemmas
pub mod FaultLemmas
