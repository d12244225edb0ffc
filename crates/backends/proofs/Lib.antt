pub mod Cases
mod ArticleLemmas
mod GroupLemmas
mod GroupPlaces
mod JoinedNets
mod Records
mod Spaces
