pub mod OpsLemmas
pub mod CopyLemmas
