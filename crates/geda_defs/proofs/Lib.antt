pub mod Bytes
pub mod OnceLaws
