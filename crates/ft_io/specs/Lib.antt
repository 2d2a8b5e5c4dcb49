pub mod FaultTexts
pub mod Intake
pub mod LineParts
pub mod Lines
pub mod Memory
pub mod Reader
pub mod Streams
