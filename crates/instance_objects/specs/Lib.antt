pub mod SheetIds
pub mod Occurrences
pub mod Texts
pub mod Ports
pub mod InstanceObjects
pub mod steps
