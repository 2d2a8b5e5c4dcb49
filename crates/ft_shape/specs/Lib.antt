pub mod Tree
pub mod Steps
pub mod Told
