pub mod CountedElements
pub mod PlainSteps
pub mod RefusedEdits
pub mod WrittenValues
