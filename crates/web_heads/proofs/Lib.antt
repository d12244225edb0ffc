pub mod Fronts
mod Memories
mod DigitLemmas
mod Lengths
mod Hosts
pub mod Cutting
pub mod Once
mod Nexts
pub mod MessageSizes
