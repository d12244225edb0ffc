pub mod CuttingDigits
pub mod CuttingFields
pub mod CuttingLines
pub mod Digits
pub mod LineEnds
pub mod NumbersAgain
pub mod Positions
pub mod WordsAgain
