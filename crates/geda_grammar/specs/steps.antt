-- Steps of the code; no public clause cites them.
pub mod Running
pub mod Levels
pub mod Sheets
pub mod Reading
pub mod Following
pub mod SheetLines
pub mod Tests
pub mod Files
