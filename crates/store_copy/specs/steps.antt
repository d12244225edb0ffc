-- Steps of the code; no public clause cites them.
pub mod Comparing
pub mod Copying
pub mod Filling
