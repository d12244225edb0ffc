pub mod Matrices
pub mod MatrixFiles
pub mod steps
