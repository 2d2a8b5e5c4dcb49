pub mod Elements
pub mod Entries
pub mod EntryLists
pub mod Items
pub mod SameStamps
pub mod Tables
pub mod Stages
pub mod Lifespans
