pub mod Outcomes
pub mod SheetIdLemmas
pub mod OrderLemmas
pub mod LabelLemmas
pub mod LineLemmas
pub mod Cases
pub mod FlatObjects
