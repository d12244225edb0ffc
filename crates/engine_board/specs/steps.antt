-- Steps of the code; no public clause cites them.
pub mod Stays
pub mod Turns
pub mod Taking
