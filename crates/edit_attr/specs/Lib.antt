pub mod FirstPoints
pub mod Attributes
