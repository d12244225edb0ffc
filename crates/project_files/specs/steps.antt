-- Steps of the code; no public clause cites them.
pub mod Passing
pub mod Reading
pub mod Progress
pub mod Asking
pub mod Standing
pub mod Counting
pub mod Bounds
