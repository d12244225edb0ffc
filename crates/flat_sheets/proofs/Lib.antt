pub mod ObjectLemmas
pub mod PartLemmas
pub mod NameLemmas
pub mod RoleLaws
pub mod Cases
