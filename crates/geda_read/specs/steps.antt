pub mod Embeddings
pub mod Expecting
pub mod Files
pub mod Levels
pub mod Rows
pub mod Staying
pub mod Version
