pub mod Bare
pub mod Nodes
