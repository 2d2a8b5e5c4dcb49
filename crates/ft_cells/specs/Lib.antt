pub mod CellTables
pub mod Indexed
