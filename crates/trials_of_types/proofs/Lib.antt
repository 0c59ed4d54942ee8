pub mod SmallLemmas
pub mod CallTrialLemmas
pub mod DeclaredLemmas
