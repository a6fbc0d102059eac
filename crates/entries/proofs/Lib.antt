pub mod PaperLaws
pub mod EntryLaws
pub mod PlaceLaws
pub mod JoinedLaws
pub mod Determined
