pub mod SameStamps
