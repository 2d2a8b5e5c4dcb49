-- The entries of a table of stages.
use Rattle.std.specs.Prelude.{◌≡◌, ℕ, ◌%◌, ◌^◌, List, [], Option, Some, None, Box}
use Rattle.std.specs.declared.alloc.Global.{Global}
use Rattle.ft_partial.specs.declared.entries.Entry.{Entry}
use Rattle.ft_partial.specs.declared.stages.Recent.{Recent}
use Rattle.ft_partial.specs.EntryLists.{entries_of}
use Rattle.ft_partial.specs.Entries.{IsRising, last_number, unseen}

abbrev pub recent_entries : Option (Box Recent Global) → List Entry
recent_entries None = []
recent_entries (Some recent) = entries_of recent.value.entries

-- the numbers of the entries rise, and who has seen the last number that there is counts none of them
pub record AreStages (xs : List Entry) : Type 0 where
  pub rising : IsRising xs
  pub at_last : (c : ℕ) → unseen last_number c xs % 2 ^ 64 ≡ 0
