pub mod Runs
pub mod RunText
pub mod steps
