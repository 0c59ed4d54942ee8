pub mod CellsLemmas
pub mod DenotesLemmas
pub mod PartsLemmas
pub mod StepsLemmas
pub mod PrintingLemmas
pub mod ShownLemmas
pub mod WritingLemmas
