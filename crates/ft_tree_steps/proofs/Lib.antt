pub mod FoundPlaces
pub mod FoundOffsets
pub mod OffsetCounts
pub mod CutPlaces
pub mod RangeWalks
pub mod JoinedPairs
pub mod OrderedPlaces
pub mod SettledNumbers
