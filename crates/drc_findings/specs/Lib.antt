pub mod Findings
pub mod Order
pub mod Report
