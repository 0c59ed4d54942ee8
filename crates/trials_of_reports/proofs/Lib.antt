pub mod ReportsLemmas
