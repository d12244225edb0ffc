mod MovedBodies
mod WritableHistories
pub mod OrderlyHistories
mod TakenEntries
mod RepeatedEntries
mod AcceptedEntries
pub mod FilledComponents
pub mod TableLaws
