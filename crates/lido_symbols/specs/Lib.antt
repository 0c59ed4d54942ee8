pub mod Numbers
pub mod Uses
pub mod Classes
pub mod FromText
pub mod Occurrences
