pub mod FrontRuns
pub mod FrontSegments
pub mod MadeSegments
pub mod NamedAtPlaces
pub mod NumberedItems
