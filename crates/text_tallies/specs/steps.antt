-- Steps of the code; no public clause cites them.
pub mod PairsFed
pub mod Twice
pub mod SetSteps
pub mod KeySteps
pub mod FirstNames
pub mod PlainNames
