-- The keys of the cells that hold a value: each stands once among them.
use Rattle.std.proofs.Common.{◌≡◌, ℕ, suc, Bool, true, false, cond, List, [], ◌∷◌, ◌++◌, append-nil, Some, refl, sym, subst, ◌∙◌, ap}
use Rattle.std.specs.List.{AllByRecursion}
use Rattle.std.specs.List.Sorted.{IsStrictlySortedBy}
use Rattle.std.specs.Map.{keys_of, lookup}
use Rattle.std.specs.BTreeMap.{is_at}
use Rattle.std.specs.Ordering.{is_eq}
use Rattle.std.specs.declared.cmp.Ordering.TheVariants.{Less}
use Rattle.ft_base.specs.Scan.{len, one_more_if, retain_map}
use Rattle.ft_cells.specs.declared.cells.CellKey.{CellKey}
use Rattle.ft_cells.specs.declared.crossings.Crossing.{Crossing}
use Rattle.ft_cells.specs.CellTables.{CellList, CellState, cell_at, cell_in, crossing, crossing_cmp, holds_value, is_key, key_cmp}
use Rattle.ft_cells.proofs.CellEntries.{same_crossing, same_place}

abbrev pub key_of : Crossing → CellKey
key_of place = record { row = place.line; col = place.across }

abbrev pub held_keys : CellList → List CellKey
held_keys cells = retain_map (λ e. holds_value e.1) (λ e. key_of e.0) cells

-- the keys of the entries so far are those of all where none is left
pub all_keys : (keys : List CellKey) (rest first entries : CellList)
    → rest ≡ [] → keys ++ held_keys rest ≡ held_keys first → first ≡ entries → keys ≡ held_keys entries
all_keys keys rest first entries none so_far started =
    sym (append-nil keys) ∙ ap (λ (es : CellList). keys ++ held_keys es) (sym none) ∙ so_far ∙ ap held_keys started

counts : (r c : ℕ) (e : Crossing × CellState) (es : CellList)
    → len (is_key r c) (held_keys (e ∷ es)) ≡ cond (holds_value e.1) (one_more_if (is_key r c (key_of e.0)) (len (is_key r c) (held_keys es))) (len (is_key r c) (held_keys es))
counts r c e es = step (holds_value e.1)
  where
    step : (b : Bool) → len (is_key r c) (cond b (key_of e.0 ∷ held_keys es) (held_keys es))
        ≡ cond b (one_more_if (is_key r c (key_of e.0)) (len (is_key r c) (held_keys es))) (len (is_key r c) (held_keys es))
    step true = refl
    step false = refl

is_key-less : (r c : ℕ) (y : Crossing) → crossing_cmp (crossing r c) y ≡ Less → is_key r c (key_of y) ≡ false
is_key-less r c y h = sym (same_place r c y.line y.across) ∙ ap is_eq h

none_behind : (r c : ℕ) (es : CellList) → AllByRecursion (λ y. crossing_cmp (crossing r c) y ≡ Less) (keys_of es) → len (is_key r c) (held_keys es) ≡ 0
none_behind r c [] h = refl
none_behind r c (e ∷ es) h = counts r c e es ∙ step (holds_value e.1) (is_key r c (key_of e.0)) (is_key-less r c e.0 h.0) (none_behind r c es h.1)
  where
    step : (b k : Bool) → k ≡ false → len (is_key r c) (held_keys es) ≡ 0
        → cond b (one_more_if k (len (is_key r c) (held_keys es))) (len (is_key r c) (held_keys es)) ≡ 0
    step true false e n = n
    step false false e n = n
    step b true e n = (cc)

pub each_once : (r c : ℕ) (es : CellList) → IsStrictlySortedBy crossing_cmp (keys_of es)
    → len (is_key r c) (held_keys es) ≡ one_more_if (holds_value (cell_at es r c)) 0
unfolding IsStrictlySortedBy
each_once r c [] h = refl
each_once r c (e ∷ es) h = counts r c e es ∙ step (is_key r c (key_of e.0)) refl (each_once r c es h.1) ∙ sym (ap (λ b. one_more_if (holds_value (cell_in (cond b
    (Some e.1) (lookup (is_at (crossing_cmp (crossing r c))) es)))) 0) found)
  where
    found : is_eq (crossing_cmp (crossing r c) e.0) ≡ is_key r c (key_of e.0)
    found = same_place r c e.0.line e.0.across

    first : (b : Bool) (n : ℕ) → n ≡ 0 → cond b (suc n) n ≡ one_more_if b 0
    first true n none = ap suc none
    first false n none = none

    later : (b : Bool) (n m : ℕ) → n ≡ m → cond b n n ≡ m
    later true n m e = e
    later false n m e = e

    step : (k : Bool) → is_key r c (key_of e.0) ≡ k → len (is_key r c) (held_keys es) ≡ one_more_if (holds_value (cell_at es r c)) 0
        → cond (holds_value e.1) (one_more_if (is_key r c (key_of e.0)) (len (is_key r c) (held_keys es))) (len (is_key r c) (held_keys es))
        ≡ one_more_if (holds_value (cell_in (cond (is_key r c (key_of e.0)) (Some e.1) (lookup (is_at (crossing_cmp (crossing r c))) es)))) 0
    step true i rest =
        let behind : AllByRecursion (λ y. crossing_cmp (crossing r c) y ≡ Less) (keys_of es) =
        subst (λ place. AllByRecursion (λ y. crossing_cmp place y ≡ Less) (keys_of es)) (sym (same_crossing r c e.0.line e.0.across i)) h.0 in
        rw i (first (holds_value e.1) (len (is_key r c) (held_keys es)) (none_behind r c es behind))
    step false i rest = rw i (later (holds_value e.1) (len (is_key r c) (held_keys es)) _ rest)

behind_all : (x : Crossing) (es : CellList) → AllByRecursion (λ y. crossing_cmp x y ≡ Less) (keys_of es)
    → AllByRecursion (λ k. key_cmp (key_of x) k ≡ Less) (held_keys es)
behind_all x [] h = tt
behind_all x (e ∷ es) h = step (holds_value e.1) (behind_all x es h.1)
  where
    step : (b : Bool) → AllByRecursion (λ k. key_cmp (key_of x) k ≡ Less) (held_keys es)
        → AllByRecursion (λ k. key_cmp (key_of x) k ≡ Less) (cond b (key_of e.0 ∷ held_keys es) (held_keys es))
    step true rest = (h.0, rest)
    step false rest = rest

-- they rise by row and column
pub keys_rise : (es : CellList) → IsStrictlySortedBy crossing_cmp (keys_of es) → IsStrictlySortedBy key_cmp (held_keys es)
unfolding IsStrictlySortedBy
keys_rise [] h = tt
keys_rise (e ∷ es) h = step (holds_value e.1) (keys_rise es h.1)
  where
    step : (b : Bool) → IsStrictlySortedBy key_cmp (held_keys es) → IsStrictlySortedBy key_cmp (cond b (key_of e.0 ∷ held_keys es) (held_keys es))
    step true rest = (behind_all e.0 es h.0, rest)
    step false rest = rest
