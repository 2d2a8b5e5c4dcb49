pub mod Draws
pub mod Edits
pub mod Rounds
pub mod Generated
pub mod Acts
pub mod Opening
pub mod Exchange
pub mod Course
