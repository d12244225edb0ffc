pub mod HostLemmas
mod NameLemmas
mod NumberLemmas
