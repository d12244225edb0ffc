pub mod Documents
pub mod Lengths
