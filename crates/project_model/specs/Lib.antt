pub mod Tables
pub mod Projects
pub mod Items
pub mod Changes
pub mod steps
