pub mod TakeLemmas
pub mod StoringLemmas
