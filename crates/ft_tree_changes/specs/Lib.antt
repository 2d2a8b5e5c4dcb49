pub mod ShownOverlays
pub mod Fronts
pub mod StandingElements
