pub mod RunLaws
pub mod PieceLaws
pub mod ClippedPieces
pub mod TotalLaws
pub mod Halving
pub mod HowMany
pub mod Counts
