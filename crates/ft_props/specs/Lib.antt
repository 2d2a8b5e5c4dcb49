pub mod Keys
pub mod Properties
pub mod Element
pub mod Steps
pub mod Slide
pub mod Compaction
pub mod Overlay
