pub mod Runs
pub mod Summaries
