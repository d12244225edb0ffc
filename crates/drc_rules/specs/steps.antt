-- Steps of the code; no public clause cites them.
pub mod Counts
pub mod Pins
pub mod Meetings
