pub mod Ranks
pub mod Chains
pub mod Classes
pub mod Keys
