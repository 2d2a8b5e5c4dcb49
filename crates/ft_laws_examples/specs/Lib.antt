pub mod Rows
pub mod RowsOfLogs
pub mod Session
pub mod RowsOfSessions
pub mod RowsOfRefusals
pub mod RowsOfReports
