pub mod ListText
pub mod Joined
pub mod TangoText
pub mod PcbText
pub mod CsvRecords
pub mod BillText
pub mod Forms
pub mod steps
