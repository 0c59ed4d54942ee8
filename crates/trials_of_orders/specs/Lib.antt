pub mod BareLeaf
pub mod ClashingContexts
pub mod TwoVisits
