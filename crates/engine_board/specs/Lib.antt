pub mod Holding
pub mod Holds
pub mod Openings
pub mod steps
