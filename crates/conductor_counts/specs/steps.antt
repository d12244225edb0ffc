-- Steps of the code and of the proofs; no public clause cites them.
pub mod SymbolItems
pub mod Rows
