pub mod MapLaws
mod MarkLaws
