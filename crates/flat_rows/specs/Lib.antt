pub mod Conductors
pub mod PinOrder
pub mod Keyed
pub mod PartLists
pub mod Rows
pub mod steps
