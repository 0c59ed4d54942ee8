pub mod FaultLemmas
pub mod MadeLemmas
pub mod OrderLemmas
pub mod ExtraLemmas
pub mod ExpandLemmas
