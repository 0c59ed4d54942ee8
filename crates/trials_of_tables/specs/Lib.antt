pub mod Writing
pub mod CountedItems
pub mod Faulty
