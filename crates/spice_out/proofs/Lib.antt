pub mod Cases
mod CardLemmas
mod CountLemmas
mod ExactLemmas
mod FirstLemmas
mod LawLemmas
mod NameLemmas
mod NodeLemmas
mod PieceLemmas
mod PinLemmas
mod RowLemmas
mod TextLemmas
