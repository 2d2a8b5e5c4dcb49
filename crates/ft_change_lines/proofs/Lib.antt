pub mod CharacterCuts
pub mod PutElements
pub mod StyledRuns
pub mod TextElements
pub mod ShownFromNothing
