pub mod Markers
pub mod Passing
pub mod Playing
