pub mod KeyedLemmas
pub mod PartLemmas
pub mod RowLemmas
