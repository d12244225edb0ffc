pub mod Histories
pub mod Logs
