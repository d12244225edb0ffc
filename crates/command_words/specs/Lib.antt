pub mod HostWords
pub mod Commands
