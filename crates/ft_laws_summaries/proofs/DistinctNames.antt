-- Names of a table stand once, and so do the first of them.
use Rattle.std.proofs.Common.{◌≡◌, ℕ, zero, suc, Bool, true, false, not, ◌||◌, bytes_eq, List, [], ◌∷◌, take, refl}
use Rattle.std.specs.List.{list_any}
use Rattle.ft_base.proofs.Booleans.{both}
use Rattle.ft_props.specs.Properties.{Characters}
use Rattle.ft_msg.specs.NameTable.{AreDistinct}
use Rattle.ft_sumdoc.specs.Counts.{are_distinct_names}

none-taken : (name : Characters) (n : ℕ) (names : List Characters) → not (list_any (bytes_eq name) names) ≡ true → not (list_any (bytes_eq name) (take n names)) ≡ true
none-taken name zero names h = refl
none-taken name (suc n) [] h = refl
none-taken name (suc n) (first ∷ names) h = by (bytes_eq name first) h (λ g. none-taken name n names g)
  where
    by : (b : Bool) → not (b || list_any (bytes_eq name) names) ≡ true
        → (not (list_any (bytes_eq name) names) ≡ true → not (list_any (bytes_eq name) (take n names)) ≡ true)
        → not (b || list_any (bytes_eq name) (take n names)) ≡ true
    by true g ih = (cc)
    by false g ih = ih g

pub distinct-taken : (n : ℕ) (names : List Characters) → are_distinct_names names ≡ true → are_distinct_names (take n names) ≡ true
distinct-taken zero names h = refl
distinct-taken (suc n) [] h = refl
distinct-taken (suc n) (first ∷ names) h =
    let p = both (not (list_any (bytes_eq first) names)) (are_distinct_names names) h in
    rw (none-taken first n names p.0, distinct-taken n names p.1) refl

-- no name stands twice in a table
pub table-distinct : (names : List Characters) → AreDistinct names → are_distinct_names names ≡ true
table-distinct [] h = refl
table-distinct (name ∷ names) h = rw (h.0, table-distinct names h.1) refl
