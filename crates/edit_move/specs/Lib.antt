pub mod Motions
pub mod Objects
pub mod Faults
pub mod steps
