pub mod Maps
pub mod Marks
