-- Steps of the code; no public clause cites them.
pub mod Openings
pub mod Objects
pub mod Room
