pub mod GroupSizes
pub mod Changed
pub mod Bounds
pub mod Boards
pub mod steps
