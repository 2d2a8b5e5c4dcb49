pub mod Words
pub mod Statuses
pub mod Report
pub mod Run
