pub mod CheckedFiles
