pub mod OperationsLemmas
pub mod BracesLemmas
