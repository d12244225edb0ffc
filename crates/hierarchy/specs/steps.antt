-- Steps of the code; no public clause cites them.
pub mod Inside
pub mod MetSymbols
pub mod Parents
pub mod SeenTexts
pub mod SheetRows
pub mod Widening
