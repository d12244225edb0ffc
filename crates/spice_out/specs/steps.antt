-- Steps of the code; no public clause cites them.
pub mod PinRows
pub mod FirstPins
pub mod CardNames
pub mod CardLines
pub mod Judging
