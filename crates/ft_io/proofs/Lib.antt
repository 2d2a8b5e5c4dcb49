pub mod FirstLf
pub mod Gathering
pub mod LineLaws
pub mod Parts
pub mod ReadingLaws
pub mod TakenAndLeft
