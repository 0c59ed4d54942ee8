pub mod FindLemmas
pub mod NodesLemmas
pub mod RegionsLemmas
pub mod SizesLemmas
