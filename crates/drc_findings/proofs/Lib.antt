pub mod FoundLemmas
pub mod OrderLemmas
