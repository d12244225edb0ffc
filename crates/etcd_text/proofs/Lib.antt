pub mod DecodedLemmas
pub mod KeyLemmas
pub mod ValueLemmas
