-- Steps of the code; no public clause cites them.
pub mod Growing
pub mod Rows
