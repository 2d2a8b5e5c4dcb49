pub mod FilledLists
pub mod NamedPlaces
pub mod OpenRuns
pub mod OpenSegments
