pub mod Again
pub mod steps
