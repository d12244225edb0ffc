pub mod OnNets
pub mod Findings
pub mod steps
