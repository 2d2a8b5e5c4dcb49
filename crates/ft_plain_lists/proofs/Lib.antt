pub mod BackwardRuns
pub mod CharacterContents
pub mod HeldElements
mod MadeItems
pub mod NamedLists
pub mod NotedAnswers
pub mod PlacedCells
pub mod PlacedItem
pub mod PlacedList
pub mod PlacedRuns
pub mod PushedCharacter
pub mod SettledName
pub mod ShownPlaces
pub mod StandingPairs
