mod Mins
mod Prefixes
mod Walks
mod Tables
mod Adding
pub mod OneRequest
mod BodyTexts
mod ReplyBytes
mod SharedBytes
pub mod Held
