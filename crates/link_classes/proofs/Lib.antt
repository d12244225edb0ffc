pub mod ListLemmas
pub mod FirstPlaceLemmas
pub mod GroupLemmas
pub mod RowLemmas
pub mod RunLemmas
pub mod PortLemmas
pub mod LinkLemmas
pub mod Cases
