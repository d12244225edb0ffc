mod RowLemmas
mod ChangeLemmas
mod GrowingLemmas
