pub mod WalkLemmas
pub mod TurningCases
