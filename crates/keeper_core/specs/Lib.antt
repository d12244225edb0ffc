pub mod Faults
pub mod MemoryKeepers
