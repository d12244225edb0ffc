-- Steps of the code; no public clause cites them.
pub mod Members
pub mod ChangedThings
pub mod Standing
pub mod SymbolNames
pub mod Kept
pub mod Reading
