pub mod RenumberedFiles
pub mod steps
