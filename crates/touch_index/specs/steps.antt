-- Steps of the code; no public clause cites them.
pub mod Marks
pub mod Spans
pub mod Spanning
pub mod Strips
pub mod Grid
pub mod Drawn
pub mod Sifting
