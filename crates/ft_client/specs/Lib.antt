pub mod Numbers
pub mod Parts
pub mod Holds
pub mod Notes
pub mod Acks
pub mod Rejoins
