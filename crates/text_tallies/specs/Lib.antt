pub mod TwoOfAList
pub mod NameSets
pub mod PairSets
pub mod PairHash
pub mod LookAlike
pub mod Levels
pub mod steps
