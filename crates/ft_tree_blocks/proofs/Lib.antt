pub mod Walks
pub mod WalkEdits
pub mod Neighbours
pub mod CountedWalks
pub mod FoundLeaves
pub mod MovedLeaves
mod StepValues
mod SettledLeaves
mod SkippedLeaves
mod Acknowledged
mod LeafPlaces
mod AnchoredLeaves
mod SentReferences
mod SlidReferences
mod UnsettledLeaves
mod AnchorChanges
mod NotedLeaves
mod TouchedLists
mod TrackedSteps
mod AckedNodes
pub mod LeastAbove
mod StageSearch
mod UnremovedLeaves
mod OrderedNodes
mod PrunedLists
mod KeptRefs
mod RefSteps
mod ShownPlaces
