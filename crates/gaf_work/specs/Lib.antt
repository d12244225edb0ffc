pub mod Draws
pub mod Opening
pub mod DrawnSteps
pub mod Live
pub mod steps
