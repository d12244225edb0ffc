pub mod Keys
pub mod Requests
pub mod Numbers
pub mod Answers
pub mod steps
