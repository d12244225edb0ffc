-- Steps of the code; no public clause cites them.
pub mod PlainTexts
pub mod Objects
pub mod LiveSteps
