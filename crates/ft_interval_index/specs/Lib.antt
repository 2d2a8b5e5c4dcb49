pub mod Order
pub mod Indexes
pub mod ByLabel
