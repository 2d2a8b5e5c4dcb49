pub mod Writes
pub mod PlacesOnLines
pub mod CellEntries
pub mod StagedWrites
pub mod WrittenCells
pub mod HeldKeys
