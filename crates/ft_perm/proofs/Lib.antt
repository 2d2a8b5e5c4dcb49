pub mod RunCounts
pub mod ApartRuns
pub mod SeenRuns
pub mod SeenWalks
pub mod StandingRuns
pub mod ProperVectors
