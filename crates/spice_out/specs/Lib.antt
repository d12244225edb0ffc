pub mod Nodes
pub mod Pins
pub mod Cards
pub mod SpiceText
pub mod Faults
pub mod SpiceLaws
pub mod steps
