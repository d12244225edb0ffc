pub mod Vouched
pub mod EngineKeepers
