pub mod DrawingLemmas
pub mod GroupingLemmas
