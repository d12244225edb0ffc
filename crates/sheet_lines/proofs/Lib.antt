pub mod Contents
pub mod FirstFields
pub mod Following
pub mod LineLaws
pub mod Names
pub mod Pictures
