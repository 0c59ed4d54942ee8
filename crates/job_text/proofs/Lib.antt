pub mod CuttingLemmas
pub mod FaultLemmas
mod FormLemmas
mod GeneratedLemmas
mod NumberLemmas
mod RepeatLemmas
mod WordLemmas
