pub mod FoundEnds
pub mod JoinedLeaves
pub mod RefPlaces
pub mod TreeInside
