pub mod ListCuts
pub mod RisingItems
