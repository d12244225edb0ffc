pub mod KindLemmas
pub mod ConflictLemmas
pub mod PinLemmas
pub mod Cases
pub mod SpellingLemmas
pub mod MeetingLemmas
