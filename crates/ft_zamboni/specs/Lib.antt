pub mod Collections
pub mod Scours
pub mod Sweeps
