pub mod Texts
pub mod Lengths
pub mod Contents
pub mod Shows
pub mod Saved
