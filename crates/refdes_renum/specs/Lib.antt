pub mod Numbers
pub mod Renumbering
pub mod steps
pub mod Laws
