mod Hearing
mod Reading
mod GivenSteps
mod Editing
mod Calling
