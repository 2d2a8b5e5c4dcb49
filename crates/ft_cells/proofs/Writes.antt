-- The pending writes of a cell: the last one, and one that is found by its stage.
use Rattle.std.proofs.Common.{◌≡◌, ℕ, zero, suc, ◌-◌, ◌<◌, ◌≤◌, Bool, true, false, not, nat_eq, nat_lt, All, List, [], ◌∷◌, ◌++◌, Option, Some, None, refl, sym, ◌∙◌, ap, arith}
use Rattle.std.proofs.Common.{take, drop, length, get_or}
use Rattle.std.proofs.Math.Numerals.{one-add}
use Rattle.std.specs.Prelude.{filter, position}
use Rattle.std.specs.List.{AllByRecursion, prefix_len}
use Rattle.std.specs.List.Sorted.{IsPartitionPoint, IsPartitionedBy}
use Rattle.std.specs.Map.{lookup}
use Rattle.std.proofs.lemmas.Bool.Decides.{nat_tests}
use Rattle.std.proofs.lemmas.List.{get_or_default}
use Rattle.std.proofs.lemmas.List.Elements.{All-head, All-tail}
use Rattle.ft_cells.specs.CellTables.{last_value}
use Rattle.ft_cells.specs.Indexed.{AreRising}

abbrev pub Writes : Type 0
Writes = List (ℕ × List ℕ)

-- ---- the last write

last_value-at : (value : Option (List ℕ)) (ws : Writes) (w : ℕ × List ℕ) (i : ℕ) → suc i ≡ length ws → w ≡ get_or ws i w → last_value value ws ≡ Some w.1
last_value-at value [] w i e h = absurd (omega arith)
last_value-at value (x ∷ []) w zero e h = (cc)
last_value-at value (x ∷ []) w (suc i) e h = absurd (omega arith)
last_value-at value (x ∷ y ∷ ws) w zero e h = absurd (omega arith)
last_value-at value (x ∷ y ∷ ws) w (suc i) e h = last_value-at (Some x.1) (y ∷ ws) w i (omega arith) h

pub last_value-last : (value : Option (List ℕ)) (ws : Writes) (w : ℕ × List ℕ) → 0 < length ws → w ≡ get_or ws (length ws - 1) w → last_value value ws ≡ Some w.1
last_value-last value ws w some h = last_value-at value ws w (length ws - 1) (omega arith) h

-- ---- rising stages

above_head : (m j : ℕ) (ws : Writes) (d : ℕ × List ℕ) → AllByRecursion (λ v. m < v.0) ws → j < length ws → m < (get_or ws j d).0
above_head m j [] d h lt = absurd (omega arith)
above_head m zero (w ∷ ws) d h lt = h.0
above_head m (suc j) (w ∷ ws) d h lt = above_head m j ws d h.1 (omega arith)

rises : (ws : Writes) → AreRising ws → (i j : ℕ) (d : ℕ × List ℕ) → i ≤ j → j < length ws → (get_or ws i d).0 ≤ (get_or ws j d).0
rises [] h i j d le lt = absurd (omega arith)
rises (w ∷ ws) h zero zero d le lt = omega arith
rises (w ∷ ws) h zero (suc j) d le lt = omega (arith, above_head w.0 j ws d h.0 (omega arith))
rises (w ∷ ws) h (suc i) zero d le lt = absurd (omega arith)
rises (w ∷ ws) h (suc i) (suc j) d le lt = rises ws h.1 i j d (omega arith) (omega arith)

lower_too : (n m k : ℕ) → n ≤ m → nat_lt m k ≡ true → nat_lt n k ≡ true
lower_too n m k le h = grind (arith, nat_tests)

pub partitioned : (k : ℕ) (ws : Writes) → AreRising ws → IsPartitionedBy (λ w. nat_lt w.0 k) ws
partitioned k ws h = λ i j d le lt t. lower_too (get_or ws i d).0 (get_or ws j d).0 k (rises ws h i j d le lt) t

above_push : (m k : ℕ) (v : List ℕ) (ws : Writes) → m < k → AllByRecursion (λ w. m < w.0) ws → AllByRecursion (λ w. m < w.0) (ws ++ (k, v) ∷ [])
above_push m k v [] lt h = (lt, tt)
above_push m k v (w ∷ ws) lt h = (h.0, above_push m k v ws lt h.1)

pub rising-push : (k : ℕ) (v : List ℕ) (ws : Writes) → AreRising ws → All (λ w. w.0 < k) ws → AreRising (ws ++ (k, v) ∷ [])
rising-push k v [] h below = (tt, tt)
rising-push k v (w ∷ ws) h below =
    (above_push w.0 k v ws (All-head (λ x. x.0 < k) w ws below) h.0, rising-push k v ws h.1 (All-tail (λ x. x.0 < k) w ws below))

above_filter : (m : ℕ) (p : ℕ × List ℕ → Bool) (ws : Writes) → AllByRecursion (λ w. m < w.0) ws → AllByRecursion (λ w. m < w.0) (filter p ws)
above_filter m p [] h = tt
above_filter m p (w ∷ ws) h = step (p w) refl (above_filter m p ws h.1)
  where
    step : (b : Bool) → p w ≡ b → AllByRecursion (λ x. m < x.0) (filter p ws) → AllByRecursion (λ x. m < x.0) (filter p (w ∷ ws))
    step true e rest = rw e (h.0, rest)
    step false e rest = rw e rest

pub rising-filter : (p : ℕ × List ℕ → Bool) (ws : Writes) → AreRising ws → AreRising (filter p ws)
rising-filter p [] h = tt
rising-filter p (w ∷ ws) h = step (p w) refl (rising-filter p ws h.1)
  where
    step : (b : Bool) → p w ≡ b → AreRising (filter p ws) → AreRising (filter p (w ∷ ws))
    step true e rest = rw e (above_filter w.0 p ws h.0, rest)
    step false e rest = rw e rest

-- ---- a write found by its stage

abbrev is_other : ℕ → (ℕ × List ℕ) → Bool
is_other k w = not (nat_eq w.0 k)

abbrev place : ℕ → Writes → ℕ
place k ws = prefix_len (is_other k) ws

lookup-at : (k : ℕ) (ws : Writes) (d : ℕ × List ℕ) → place k ws < length ws → lookup (λ j. nat_eq j k) ws ≡ Some (get_or ws (place k ws) d).1
lookup-at k [] d h = absurd (omega arith)
lookup-at k (x ∷ ws) d h = step (nat_eq x.0 k) refl h (lookup-at k ws d)
  where
    step : (b : Bool) → nat_eq x.0 k ≡ b → place k (x ∷ ws) < length (x ∷ ws)
        → (place k ws < length ws → lookup (λ j. nat_eq j k) ws ≡ Some (get_or ws (place k ws) d).1)
        → lookup (λ j. nat_eq j k) (x ∷ ws) ≡ Some (get_or (x ∷ ws) (place k (x ∷ ws)) d).1
    step true e h others = rw e refl
    step false e h others = let within : place k ws < length ws = omega (arith, rw (e, one-add) at h) in rw (e, one-add) (others within)

lookup-past : (k : ℕ) (ws : Writes) → length ws ≤ place k ws → lookup (λ j. nat_eq j k) ws ≡ None
lookup-past k [] h = refl
lookup-past k (x ∷ ws) h = step (nat_eq x.0 k) refl h (lookup-past k ws)
  where
    step : (b : Bool) → nat_eq x.0 k ≡ b → length (x ∷ ws) ≤ place k (x ∷ ws) → (length ws ≤ place k ws → lookup (λ j. nat_eq j k) ws ≡ None)
        → lookup (λ j. nat_eq j k) (x ∷ ws) ≡ None
    step true e h others = absurd (omega (arith, rw e at h))
    step false e h others = let past : length ws ≤ place k ws = omega (arith, rw (e, one-add) at h) in rw e (others past)

filter-past : (k : ℕ) (ws : Writes) → length ws ≤ place k ws → filter (is_other k) ws ≡ ws
filter-past k [] h = refl
filter-past k (x ∷ ws) h = step (nat_eq x.0 k) refl h (filter-past k ws)
  where
    step : (b : Bool) → nat_eq x.0 k ≡ b → length (x ∷ ws) ≤ place k (x ∷ ws) → (length ws ≤ place k ws → filter (is_other k) ws ≡ ws)
        → filter (is_other k) (x ∷ ws) ≡ x ∷ ws
    step true e h others = absurd (omega (arith, rw e at h))
    step false e h others = let past : length ws ≤ place k ws = omega (arith, rw (e, one-add) at h) in rw e (ap (λ vs. x ∷ vs) (others past))

others_above : (k m : ℕ) (ws : Writes) → AllByRecursion (λ v. m < v.0) ws → k ≤ m → filter (is_other k) ws ≡ ws
others_above k m [] h le = refl
others_above k m (x ∷ ws) h le = let here : nat_eq x.0 k ≡ false = grind (arith, nat_tests, h.0, le) in rw here (ap (λ vs. x ∷ vs) (others_above k m ws h.1 le))

place_above : (k m : ℕ) (ws : Writes) → AllByRecursion (λ v. m < v.0) ws → k ≤ m → place k ws ≡ length ws
place_above k m [] h le = refl
place_above k m (x ∷ ws) h le =
    let here : nat_eq x.0 k ≡ false = grind (arith, nat_tests, h.0, le) in
    rw (here, one-add) (ap (λ n. suc n) (place_above k m ws h.1 le))

filter-at : (k : ℕ) (ws : Writes) → AreRising ws → place k ws < length ws → take (place k ws) ws ++ drop (suc (place k ws)) ws ≡ filter (is_other k) ws
filter-at k [] h lt = absurd (omega arith)
filter-at k (x ∷ ws) h lt = step (nat_eq x.0 k) refl (filter-at k ws h.1)
  where
    step : (b : Bool) → nat_eq x.0 k ≡ b → (place k ws < length ws → take (place k ws) ws ++ drop (suc (place k ws)) ws ≡ filter (is_other k) ws)
        → take (place k (x ∷ ws)) (x ∷ ws) ++ drop (suc (place k (x ∷ ws))) (x ∷ ws) ≡ filter (is_other k) (x ∷ ws)
    step true e others = let same : k ≤ x.0 = grind (arith, nat_tests) in rw e (sym (others_above k x.0 ws h.0 same))
    step false e others = let within : place k ws < length ws = omega (arith, rw (e, one-add) at lt) in rw (e, one-add) (ap (λ vs. x ∷ vs) (others within))

-- ---- the place at which the search by halves ends

abbrev IsEnd : ℕ → ℕ → Writes → Type 0
IsEnd k i ws = IsPartitionPoint (λ w. nat_lt w.0 k ≡ true) (λ w. nat_lt w.0 k ≡ false) ws i

end-rest : (k i : ℕ) (x : ℕ × List ℕ) (ws : Writes) → IsEnd k (suc i) (x ∷ ws) → IsEnd k i ws
end-rest k i x ws h = (λ j d lo hi. h.0 (suc j) d (omega arith) (omega arith), λ j d lo hi. h.1 (suc j) d (omega arith) (omega arith))

end-below : (k i : ℕ) (x : ℕ × List ℕ) (ws : Writes) → IsEnd k (suc i) (x ∷ ws) → nat_eq x.0 k ≡ false
end-below k i x ws h = let lt : nat_lt x.0 k ≡ true = h.0 0 x (omega arith) (omega arith) in grind (arith, nat_tests, lt)

place-found : (k i : ℕ) (ws : Writes) (w : ℕ × List ℕ) → IsEnd k i ws → i < length ws → w ≡ get_or ws i w → nat_eq w.0 k ≡ true → place k ws ≡ i
place-found k i [] w h lt at e = absurd (omega arith)
place-found k zero (x ∷ ws) w h lt at e = let here : nat_eq x.0 k ≡ true = cc (at, e) in rw here refl
place-found k (suc i) (x ∷ ws) w h lt at e =
    rw (end-below k i x ws h, one-add) (ap (λ n. suc n) (place-found k i ws w (end-rest k i x ws h) (omega arith) at e))

-- no write of stage k stands at this place
abbrev HasNot : ℕ → ℕ → Writes → Type 0
HasNot k i ws = (w : ℕ × List ℕ) → i < length ws → w ≡ get_or ws i w → nat_eq w.0 k ≡ false

place-missing : (k i : ℕ) (ws : Writes) → i ≤ length ws → IsEnd k i ws → AreRising ws → HasNot k i ws → length ws ≤ place k ws
place-missing k i [] le h up other = omega arith
place-missing k zero (x ∷ ws) le h up other =
    let here : nat_eq x.0 k ≡ false = other x (omega arith) refl in
    let high : nat_lt x.0 k ≡ false = h.1 0 x (omega arith) (omega arith) in
    let above : k ≤ x.0 = grind (arith, nat_tests, high) in
    rw (here, one-add) (omega (arith, place_above k x.0 ws up.0 above))
place-missing k (suc i) (x ∷ ws) le h up other =
    rw (end-below k i x ws h, one-add) (omega (arith, place-missing k i ws (omega arith) (end-rest k i x ws h) up.1 (λ w lt at. other w (omega arith) at)))

pub position-found : (k i : ℕ) (ws : Writes) (w : ℕ × List ℕ) → IsEnd k i ws → i < length ws → w ≡ get_or ws i w → w.0 ≡ k
    → Some i ≡ position (λ v. nat_eq v.0 k) ws
position-found k i ws w h lt at e =
    let test : nat_eq w.0 k ≡ true = grind (arith, nat_tests, e) in
    let same : place k ws ≡ i = place-found k i ws w h lt at test in
    grind (arith, nat_tests)

pub position-missing : (k i : ℕ) (ws : Writes) → i ≤ length ws → IsEnd k i ws → AreRising ws → HasNot k i ws → None ≡ position (λ v. nat_eq v.0 k) ws
position-missing k i ws le h up other =
    let past : length ws ≤ place k ws = place-missing k i ws le h up other in
    grind (arith, nat_tests)

-- where a write of another stage stands there, or none
pub other-there : (k i : ℕ) (ws : Writes) (w : ℕ × List ℕ) → i < length ws → w ≡ get_or ws i w → (w.0 ≡ k → ⊥) → HasNot k i ws
other-there k i ws w lt at differ v less is =
    let same : v ≡ w = is ∙ get_or_default ws i v w lt ∙ sym at in
    let apart : v.0 ≡ k → ⊥ = λ e. differ (sym (ap (λ (x : ℕ × List ℕ). x.0) same) ∙ e) in
    grind (arith, nat_tests, apart)

-- what is found, what is left, and that all is left where nothing is found
pub lookup-found : (k i : ℕ) (ws : Writes) (d : ℕ × List ℕ) → position (λ w. nat_eq w.0 k) ws ≡ Some i → lookup (λ j. nat_eq j k) ws ≡ Some (get_or ws i d).1
lookup-found k i ws d h =
    let within : place k ws < length ws = grind (arith, nat_tests) in
    let same : i ≡ place k ws = grind (arith, nat_tests) in
    rw same (lookup-at k ws d within)

pub filter-found : (k i : ℕ) (ws : Writes) → AreRising ws → position (λ w. nat_eq w.0 k) ws ≡ Some i
    → take i ws ++ drop (suc i) ws ≡ filter (λ w. not (nat_eq w.0 k)) ws
filter-found k i ws up h =
    let within : place k ws < length ws = grind (arith, nat_tests) in
    let same : i ≡ place k ws = grind (arith, nat_tests) in
    rw same (filter-at k ws up within)

pub lookup-missing : (k : ℕ) (ws : Writes) → position (λ w. nat_eq w.0 k) ws ≡ None → lookup (λ j. nat_eq j k) ws ≡ None
lookup-missing k ws h = let past : length ws ≤ place k ws = grind (arith, nat_tests) in lookup-past k ws past

pub filter-missing : (k : ℕ) (ws : Writes) → position (λ w. nat_eq w.0 k) ws ≡ None → filter (λ w. not (nat_eq w.0 k)) ws ≡ ws
filter-missing k ws h = let past : length ws ≤ place k ws = grind (arith, nat_tests) in filter-past k ws past
