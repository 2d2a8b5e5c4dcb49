pub mod MarkedRuns
pub mod Pieces
pub mod StageLists
pub mod Moves
pub mod Normalised
pub mod Spots
pub mod RebuiltPlaces
