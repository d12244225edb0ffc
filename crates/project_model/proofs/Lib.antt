pub mod Rows
pub mod OrderedRows
pub mod ChangeLemmas
pub mod BuiltChanges
pub mod SortedLists
