pub mod Asks
pub mod Handles
pub mod Holding
pub mod Opening
