mod Outputs
mod Contents
mod ShapeColumns
mod Canonical
mod Heads
pub mod CutLines
pub mod SpelledRows
pub mod Spelled
