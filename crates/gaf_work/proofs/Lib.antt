mod Cases
pub mod IdsBelow
pub mod TextLemmas
pub mod ChangeLemmas
pub mod RowIds
pub mod LiveLemmas
