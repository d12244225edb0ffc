pub mod SheetTable
pub mod Texts
pub mod Ways
pub mod Crowded
pub mod Lost
pub mod Instances
pub mod steps
