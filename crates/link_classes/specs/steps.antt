-- Steps of the code; no public clause cites them.
pub mod FirstPlaces
pub mod GroupPlaces
pub mod GroupRows
pub mod RunPlaces
pub mod PortPlaces
