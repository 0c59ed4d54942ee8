pub mod ChildrenLemmas
