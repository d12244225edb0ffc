pub mod RowReading
pub mod RowTexts
