-- Acknowledged intervals at stage 0 that are gathered by their names.
use Rattle.std.specs.Prelude.{◌≡◌, ◌⊎◌, ℕ, Bool, true, ◌||◌, List, None}
use Rattle.std.specs.List.{list_any}
use Rattle.ft_refs.specs.declared.numbers.Place.{Place}
use Rattle.ft_tree_leaves.specs.declared.text.TextContent.{TextContent}
use Rattle.ft_tree.specs.State.{TreeState}
use Rattle.ft_interval_store.specs.declared.intervals.Interval.{Interval}
use Rattle.ft_interval_store.specs.declared.pending.Operation.{Operation}
use Rattle.ft_interval_store.specs.Intervals.{Name, NamesRise, interval_of, is_on}
use Rattle.ft_interval_store.specs.Standing.{ShowsAll}

-- whether one of the operations is on the interval of that name
abbrev pub is_on_any : Name → List Operation → Bool
is_on_any n ts = list_any (λ t. is_on n t.op) ts

-- these intervals are of a list, each as there and by rising names, and those of the names that pass the test are all there
pub record IsPartOf (from is : List (Interval ℕ)) (wanted : Name → Bool) : Type 0 where
  pub part : (n : Name) → (interval_of n is ≡ None) ⊎ (interval_of n is ≡ interval_of n from)
  pub there : (n : Name) → wanted n ≡ true → interval_of n is ≡ interval_of n from
  pub rising : NamesRise is

-- those of the names that pass the test were added, where what was there before was of the same list
abbrev pub Gathers : TreeState TextContent → List (Interval ℕ) → (Name → Bool) → List (Interval Place) → List (Interval Place) → Type 0
Gathers tree from wanted old new =
    (is : List (Interval ℕ)) (before : Name → Bool) → ShowsAll tree 0 is old → IsPartOf from is before
    → (js : List (Interval ℕ)) × ShowsAll tree 0 js new × IsPartOf from js (λ n. before n || wanted n)
