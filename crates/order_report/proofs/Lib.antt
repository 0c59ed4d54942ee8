pub mod PutsLemmas
pub mod LinesLemmas
pub mod ReportLemmas
pub mod CyclesLemmas
