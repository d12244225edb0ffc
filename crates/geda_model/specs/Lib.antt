pub mod Limits
pub mod Names
pub mod Data
pub mod Ranges
pub mod Shapes
pub mod Sheets
pub mod steps
