pub mod LevelSound
mod LevelRuns
mod SheetLaws
mod LineRows
mod OpensLaw
mod Deciding
pub mod FaultLaw
pub mod FieldLaws
pub mod FollowLaws
pub mod RowLaws
pub mod SheetLineLaws
pub mod FileLaws
pub mod RowFacts
mod VersionLaws
mod FinalLaws
mod ThreeFiles
mod ByteLaws
pub mod ReadingLaws
mod Ascii
pub mod CanonicalRows
pub mod Writing
pub mod Pieces
mod Goodness
mod PictureLines
mod Written
pub mod WritingLaws
mod Cases
