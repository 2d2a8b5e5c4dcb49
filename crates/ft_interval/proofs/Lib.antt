pub mod ListedEffects
pub mod StandsSteps
pub mod Effects
pub mod OnIntervals
