pub mod Comparing
pub mod Kept
pub mod Linked
pub mod Own
pub mod Stopping
pub mod Telling
pub mod Unsent
