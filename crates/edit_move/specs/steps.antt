-- What steps of the code promise.
pub mod Walks
pub mod Points
