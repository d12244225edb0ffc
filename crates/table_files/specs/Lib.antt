pub mod Faults
pub mod OpenedFiles
pub mod FilledFiles
pub mod steps
