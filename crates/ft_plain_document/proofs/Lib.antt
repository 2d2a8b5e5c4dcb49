pub mod IntervalTaken
pub mod RenamedNames
pub mod ShownStages
mod OwnAnswers
mod OwnSteps
