-- Tables of answers by the names of elements: of sequenced ones by their numbers, and of the pending ones that were asked for.
use Rattle.std.specs.Prelude.{◌≡◌, Bool, cond, List, [], ◌∷◌, Option, Some, None, option_map, slice_get}
use Rattle.std.specs.BTreeMap.{get}
use Rattle.std.specs.Option.{option_or}
use Rattle.ft_props.specs.Element.{ElementId, PendingId, SequencedId, same_id}
use Rattle.ft_plain_lists.specs.declared.name_tables.NameTable.{NameTable}
use Rattle.ft_plain_lists.specs.NamedLists.{name_cmp}

-- what the table has for the name, if it reaches to it
abbrev pub noted_at : {V : Type 0} → NameTable V → ElementId → Option V
noted_at table (SequencedId n) = slice_get table.numbers.items n
noted_at table (PendingId k n) = get name_cmp table.pending (PendingId k n)

-- the value stands for the name, if the table reaches to it, and every other name has what it had
pub record Notes {V : Type 0} (x : ElementId) (v : V) (old new : NameTable V) : Type 0 where
  pub all : (y : ElementId) → noted_at new y ≡ cond (same_id y x) (option_map (λ w. v) (noted_at old y)) (noted_at old y)

-- what the table has for a name is its answer
pub record HasAnswers {V : Type 0} (answer : ElementId → V) (table : NameTable V) : Type 0 where
  pub right : (x : ElementId) (v : V) → noted_at table x ≡ Some v → v ≡ answer x

-- the last element that is seen
abbrev pub last_seen : {A : Type 0} → (A → Bool) → List A → Option A
last_seen seen [] = None
last_seen seen (x ∷ xs) = option_or (last_seen seen xs) (cond (seen x) (Some x) None)
