pub mod Streams
pub mod MemorySinks
