pub mod StemLemmas
pub mod NumberLemmas
pub mod UsedLemmas
pub mod ContentLemmas
pub mod LawLemmas
pub mod LeastLemmas
