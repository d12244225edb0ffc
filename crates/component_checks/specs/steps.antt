-- Steps of the code; no public clause cites them.
pub mod Repeats
pub mod FoundBy
pub mod SlotRows
pub mod CheckedObjects
pub mod ToldPins
pub mod SoundSymbols
pub mod CheckedValues
