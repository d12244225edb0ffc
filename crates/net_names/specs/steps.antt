-- Steps of the code; no public clause cites them.
pub mod Orders
pub mod PackageRows
pub mod Pins
pub mod Gathering
pub mod Classes
pub mod Numbering
