pub mod CloneLemmas
pub mod LastLemmas
pub mod WordTests
