pub mod Passing
pub mod Reading
mod AskingLemmas
mod SheetLemmas
pub mod TextLemmas
mod BoundLemmas
mod OpeningLemmas
mod ProjectLemmas
pub mod WriteLemmas
mod MeasureLemmas
pub mod OneProject
