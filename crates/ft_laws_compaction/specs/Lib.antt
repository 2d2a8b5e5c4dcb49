pub mod Free
pub mod Keeping
pub mod Floors
pub mod StageRuns
pub mod ExampleCompaction
