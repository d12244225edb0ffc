pub mod Begun
pub mod Adding
pub mod Contents
pub mod Fields
pub mod Letters
pub mod Results
