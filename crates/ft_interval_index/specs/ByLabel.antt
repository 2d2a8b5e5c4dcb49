-- How `Indexes` keeps the indexes. No public clause cites this module.
use Rattle.std.specs.Prelude.{List, String, chars, map, string_bytes}
use Rattle.std.specs.declared.alloc.Global.{Global}
use Rattle.ft_overlap.specs.Items.{ItemList}
use Rattle.ft_interval_index.specs.Indexes.{LabelIndex, labelled}

-- the indexes, each by the text of its label
abbrev pub labelled_by : List (String Global × ItemList) → List LabelIndex
labelled_by entries = map (λ (e : String Global × ItemList). labelled (chars (string_bytes e.0)) e.1) entries
