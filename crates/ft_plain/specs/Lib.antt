pub mod Cut
pub mod Own
