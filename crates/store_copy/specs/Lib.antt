pub mod Copies
pub mod Faults
pub mod Storing
pub mod steps
