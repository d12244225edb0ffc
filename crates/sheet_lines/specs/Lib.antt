pub mod Pending
pub mod SheetLines
pub mod steps
