pub mod ListLemmas
pub mod PairLemmas
pub mod SetLemmas
pub mod KeyLemmas
pub mod AlikeLemmas
pub mod PlainLemmas
