pub mod RunLemmas
pub mod DrawnLemmas
pub mod CrowdLemmas
pub mod GroupRows
pub mod ToldLemmas
pub mod OneWork
