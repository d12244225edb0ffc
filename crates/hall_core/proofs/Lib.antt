pub mod HistoryLemmas
pub mod Showing
pub mod Reading
pub mod Closing
pub mod Opening
pub mod Editing
pub mod LookLemmas
