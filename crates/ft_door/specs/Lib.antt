pub mod Runs
pub mod Editors
pub mod Clients
