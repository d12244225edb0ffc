pub mod Links
pub mod InstanceGroups
pub mod steps
