pub mod ListLemmas
pub mod LabelLemmas
pub mod UnionLemmas
pub mod SpanLemmas
