pub mod Faults
pub mod Answers
pub mod Writing
pub mod Runs
pub mod Endings
pub mod steps
