-- Steps of the code and of the proofs; no public clause cites them.
pub mod Lost
pub mod Reading
