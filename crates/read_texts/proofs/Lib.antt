pub mod OrderLemmas
pub mod ApartLemmas
pub mod NamesLemmas
pub mod GivesLemmas
pub mod FunctionLemmas
pub mod ItemLemmas
pub mod FromTextLemmas
pub mod IdLemmas
