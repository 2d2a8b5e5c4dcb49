pub mod EntryLemmas
pub mod ItemLemmas
pub mod SumsByStamps
pub mod TableLemmas
pub mod LifespanLemmas
