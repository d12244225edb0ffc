mod NetListLemmas
pub mod ReportLemmas
mod RowLemmas
