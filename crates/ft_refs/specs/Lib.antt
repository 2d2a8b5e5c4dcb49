pub mod RefLists
pub mod Links
