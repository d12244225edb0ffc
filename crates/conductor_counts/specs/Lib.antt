pub mod Conductors
pub mod steps
