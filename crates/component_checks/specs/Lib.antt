pub mod CheckedComponents
pub mod OnComponents
pub mod OnPackages
pub mod steps
