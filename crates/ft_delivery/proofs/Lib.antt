pub mod Rests
pub mod InOrder
pub mod KeptValues
