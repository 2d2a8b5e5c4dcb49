pub mod LentLists
pub mod OwnEdits
pub mod Renamed
pub mod SubOperations
pub mod WrittenCells
