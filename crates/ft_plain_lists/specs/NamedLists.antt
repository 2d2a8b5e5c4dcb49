-- Lists of values by the names of elements.
use Rattle.std.specs.Prelude.{List, [], Option, Some, None}
use Rattle.std.specs.Option.{option_cmp}
use Rattle.std.specs.Global.{Vec}
use Rattle.std.specs.BTreeMap.{BTreeMap, get}
use Rattle.std.specs.declared.cmp.Ordering.{Ordering}
use Rattle.std.specs.Ordering.{nat_cmp, ordering_then}
use Rattle.ft_props.specs.Element.{ElementId}
use Rattle.ft_plain_lists.specs.Names.{number_of_name, stage_of_name}

-- by stage, those of sequenced elements first, and then by number
abbrev pub name_cmp : ElementId → ElementId → Ordering
name_cmp x y = ordering_then (option_cmp nat_cmp (stage_of_name x) (stage_of_name y)) (nat_cmp (number_of_name x) (number_of_name y))

-- the values of an entry
abbrev pub values_in : {V : Type 0} → Option (Vec V) → List V
values_in entry = elim entry [ Some list ↦ list.items | None ↦ [] ]

-- the values of the name
abbrev pub listed : {V : Type 0} → ElementId → BTreeMap ElementId (Vec V) → List V
listed x lists = values_in (get name_cmp lists x)
