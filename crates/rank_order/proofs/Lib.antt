pub mod ChainLemmas
pub mod OrderLemmas
pub mod RankLemmas
pub mod MemberLemmas
pub mod ClassLemmas
pub mod MetLemmas
pub mod KeyLemmas
pub mod RankedKeys
