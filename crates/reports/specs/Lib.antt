pub mod Faults
pub mod NetLists
pub mod SheetTexts
pub mod Reports
pub mod steps
