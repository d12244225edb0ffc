pub mod RowFiles
pub mod RowSums
pub mod Faults
pub mod steps
