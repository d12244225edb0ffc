-- Steps of the code; no public clause cites them.
pub mod Reading
