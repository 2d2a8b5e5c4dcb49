pub mod LeafSteps
pub mod RangeEdits
