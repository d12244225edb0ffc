pub mod Packages
pub mod NetClasses
pub mod NetLists
pub mod NetLaws
pub mod steps
