-- Steps of the code; no public clause cites them.
pub mod ObjectContents
pub mod RoleValues
pub mod PartRoles
