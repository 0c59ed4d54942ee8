pub mod PairLemmas
pub mod RowLemmas
pub mod EntryLemmas
pub mod MemberLemmas
pub mod BelowLemmas
pub mod OrderLemmas
pub mod SlotsLemmas
