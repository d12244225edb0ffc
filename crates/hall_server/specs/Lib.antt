pub mod Services
pub mod Transcripts
pub mod Connections
pub mod Completeness
pub mod Stands
pub mod Faults
pub mod Serving
pub mod steps
