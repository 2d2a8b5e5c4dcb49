pub mod ListLemmas
pub mod PushLemmas
pub mod DetachLemmas
pub mod LoopLemmas
