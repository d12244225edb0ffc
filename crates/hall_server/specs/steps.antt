-- Steps of the code and of the proofs; no public clause cites them.
pub mod Pieces
pub mod Responding
pub mod Looks
pub mod Passing
pub mod KeptTexts
