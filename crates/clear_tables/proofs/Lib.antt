pub mod ClearLemmas
pub mod WithinLemmas
pub mod LaterFaults
