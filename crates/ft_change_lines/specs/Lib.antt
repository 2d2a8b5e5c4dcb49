pub mod ChangeTexts
pub mod FromNothing
pub mod Laws
