pub mod CheckLemmas
pub mod OneCheck
