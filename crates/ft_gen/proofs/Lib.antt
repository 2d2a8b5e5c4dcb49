pub mod Drawing
pub mod DrawnTexts
pub mod Numbering
pub mod OpeningSteps
pub mod ExchangeSteps
pub mod Turns
pub mod RoundSteps
