-- Steps of the code; no public clause cites them.
pub mod Passing
pub mod Checking
pub mod Tables
