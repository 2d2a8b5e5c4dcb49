-- What a list of entries holds, wherever they stand.
use Rattle.std.specs.Prelude.{List, [], ◌∷◌}
use Rattle.ft_partial.specs.declared.entries.Entry.{Entry}
use Rattle.ft_partial.specs.declared.entry_list.EntryList.{EntryList}
use Rattle.ft_partial.specs.declared.entry_list.EntryList.TheVariants.{Empty, One, Many}

abbrev pub entries_of : EntryList → List Entry
entries_of Empty = []
entries_of (One x) = x ∷ []
entries_of (Many entries) = entries.items
