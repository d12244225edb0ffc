-- Steps of the code; no public clause cites them.
pub mod Partition
pub mod Search
pub mod Found
pub mod Kept
