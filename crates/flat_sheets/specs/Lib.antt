pub mod Ports
pub mod ListedParts
pub mod Conductors
pub mod steps
