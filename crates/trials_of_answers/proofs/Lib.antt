pub mod ToyLemmas
pub mod RowsLemmas
