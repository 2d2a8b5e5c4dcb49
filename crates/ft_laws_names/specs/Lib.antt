pub mod WellNamed
pub mod Renaming
pub mod Naming
pub mod GridFacts
