pub mod Histories
pub mod BoardSteps
pub mod Seats
pub mod Pens
pub mod Rows
pub mod Closings
pub mod steps
