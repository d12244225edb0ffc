pub mod RowLaws
pub mod SumLemmas
