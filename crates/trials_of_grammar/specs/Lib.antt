pub mod ListOfItems
pub mod ItemTrees
pub mod LateInherited
pub mod CrossedUses
