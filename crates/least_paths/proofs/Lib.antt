pub mod GraphLemmas
pub mod MarkLemmas
pub mod LevelLemmas
pub mod PathLemmas
pub mod CycleLemmas
pub mod WithoutLemmas
pub mod AgreeLemmas
