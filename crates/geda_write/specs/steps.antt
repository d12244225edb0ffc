-- Steps of the code; no public clause cites them.
pub mod Output
pub mod Texts
pub mod Columns
