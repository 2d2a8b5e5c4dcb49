pub mod Handles
pub mod HandleLaws
pub mod Vectors
