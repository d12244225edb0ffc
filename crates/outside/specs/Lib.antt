pub mod Counts
pub mod FailingCalls
