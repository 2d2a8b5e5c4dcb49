-- Where the operation of a stage stands among operations by rising stages.
use Rattle.std.proofs.Common.{◌≡◌, ℕ, zero, suc, ◌+◌, ◌<◌, ◌≤◌, Bool, true, false, cond, nat_eq, nat_lt, not, is_some, List, [], ◌∷◌, get_or, length, slice_get, Option, Some, None, refl, sym, ◌∙◌, ap, arith}
use Rattle.std.specs.List.{list_any, position, position_or_len, prefix_len}
use Rattle.std.specs.List.Sorted.{IsPartitionPoint, IsPartitionedBy}
use Rattle.std.proofs.lemmas.Bool.Decides.{nat_tests}
use Rattle.std.proofs.lemmas.Option.{slice_get_within}
use Rattle.ft_interval_store.specs.declared.pending.Operation.{Operation}
use Rattle.ft_interval_store.specs.State.{StagesRise, is_at_stage}

-- ---- the cut of a search by halves

above-at : (low : ℕ) (ts : List Operation) → StagesRise low ts → (j : ℕ) (d : Operation) → j < length ts → low < (get_or ts j d).stage
above-at low [] r j d l = absurd (omega arith)
above-at low (t ∷ ts) r zero d l = r.0
above-at low (t ∷ ts) r (suc j) d l = (let more = above-at t.stage ts r.1 j d (omega arith) in omega (arith, r.0, more))

rises-at : (low : ℕ) (ts : List Operation) → StagesRise low ts → (i j : ℕ) (d : Operation) → i ≤ j → j < length ts
    → (get_or ts i d).stage ≤ (get_or ts j d).stage
rises-at low [] r i j d le l = absurd (omega arith)
rises-at low (t ∷ ts) r zero zero d le l = omega arith
rises-at low (t ∷ ts) r zero (suc j) d le l = (let more = above-at t.stage ts r.1 j d (omega (arith, l)) in omega (arith, more))
rises-at low (t ∷ ts) r (suc i) zero d le l = absurd (omega (arith, le))
rises-at low (t ∷ ts) r (suc i) (suc j) d le l = rises-at t.stage ts r.1 i j d (omega (arith, le)) (omega (arith, l))

lower-too : (n m k : ℕ) → n ≤ m → nat_lt m k ≡ true → nat_lt n k ≡ true
lower-too n m k le h = grind (arith, nat_tests)

pub partitioned : (k : ℕ) (ts : List Operation) → StagesRise 0 ts → IsPartitionedBy (λ (t : Operation). nat_lt t.stage k) ts
partitioned k ts r = λ i j d le l h. lower-too (get_or ts i d).stage (get_or ts j d).stage k (rises-at 0 ts r i j d le l) h

pub point-is : (p : Operation → Bool) (ts : List Operation) (i : ℕ) → i ≤ length ts
    → IsPartitionPoint (λ t. p t ≡ true) (λ t. p t ≡ false) ts i → i ≡ prefix_len p ts
point-is p [] i le h = omega arith
point-is p (t ∷ ts) zero le h =
    let no-more : p t ≡ false = h.1 0 t (omega arith) (omega arith) in
    sym (ap (λ b. cond b (1 + prefix_len p ts) 0) no-more)
point-is p (t ∷ ts) (suc i) le h =
    let yes : p t ≡ true = h.0 0 t (omega arith) (omega arith) in
    let rest = point-is p ts i (omega arith)
    (λ k d lo hi. h.0 (suc k) d (omega arith) (omega arith), λ k d lo hi. h.1 (suc k) d (omega arith) (omega arith)) in
    let here : prefix_len p (t ∷ ts) ≡ 1 + prefix_len p ts = ap (λ b. cond b (1 + prefix_len p ts) 0) yes in
    omega (arith, rest, here)

-- ---- the operation there, if it is of the stage

module _ (k : ℕ) where
  abbrev pub before : Operation → Bool
  before t = nat_lt t.stage k

  abbrev pub of_stage : Option Operation → Bool
  of_stage None = false
  of_stage (Some t) = is_at_stage k t

  -- none of a stage stands behind a higher one
  none-behind : (low : ℕ) (ts : List Operation) → k ≤ low → StagesRise low ts → position_or_len (is_at_stage k) ts ≡ length ts
  none-behind low [] le r = refl
  none-behind low (t ∷ ts) le r =
      let no : nat_eq t.stage k ≡ false = grind (arith, nat_tests, r.0) in
      let rest = none-behind t.stage ts (omega (arith, le, r.0)) r.1 in
      grind (arith, no, rest)

  chosen-next : (b : Bool) (n m : ℕ) → 1 + cond b n m ≡ cond b (suc n) (suc m)
  chosen-next true n m = omega arith
  chosen-next false n m = omega arith

  place-or : (low : ℕ) (ts : List Operation) → StagesRise low ts
      → position_or_len (is_at_stage k) ts ≡ cond (of_stage (slice_get ts (prefix_len before ts))) (prefix_len before ts) (length ts)
  place-or low [] r = refl
  place-or low (t ∷ ts) r = by (nat_lt t.stage k) (nat_eq t.stage k) refl refl (place-or t.stage ts r.1)
    where
      by : (b c : Bool) → nat_lt t.stage k ≡ b → nat_eq t.stage k ≡ c
          → position_or_len (is_at_stage k) ts ≡ cond (of_stage (slice_get ts (prefix_len before ts))) (prefix_len before ts) (length ts)
          → position_or_len (is_at_stage k) (t ∷ ts)
          ≡ cond (of_stage (slice_get (t ∷ ts) (prefix_len before (t ∷ ts)))) (prefix_len before (t ∷ ts)) (length (t ∷ ts))
      by true true e f rest =
          let below : t.stage < k = grind (arith, nat_tests, e) in
          let same : t.stage ≡ k = grind (arith, nat_tests, f) in
          absurd (omega (arith, below, same))
      by true false e f rest =
          let n : ℕ = prefix_len before ts in
          let here : prefix_len before (t ∷ ts) ≡ suc n = ap (λ b. cond b (1 + n) 0) e ∙ omega arith in
          ap (λ b. cond (not b) (1 + position_or_len (is_at_stage k) ts) 0) f ∙ ap (λ m. 1 + m) rest
          ∙ chosen-next (of_stage (slice_get ts n)) n (length ts)
          ∙ sym (ap (λ m. cond (of_stage (slice_get (t ∷ ts) m)) m (length (t ∷ ts))) here)
      by false true e f rest =
          let here : prefix_len before (t ∷ ts) ≡ 0 = ap (λ b. cond b (1 + prefix_len before ts) 0) e in
          ap (λ b. cond (not b) (1 + position_or_len (is_at_stage k) ts) 0) f
          ∙ sym (ap (λ m. cond (of_stage (slice_get (t ∷ ts) m)) m (length (t ∷ ts))) here ∙ ap (λ b. cond b 0 (length (t ∷ ts))) f)
      by false false e f rest =
          let here : prefix_len before (t ∷ ts) ≡ 0 = ap (λ b. cond b (1 + prefix_len before ts) 0) e in
          let above : k ≤ t.stage = grind (arith, nat_tests, e) in
          let all : 1 + position_or_len (is_at_stage k) ts ≡ length (t ∷ ts) = omega (arith, none-behind t.stage ts above r.1) in
          ap (λ b. cond (not b) (1 + position_or_len (is_at_stage k) ts) 0) f ∙ all
          ∙ sym (ap (λ m. cond (of_stage (slice_get (t ∷ ts) m)) m (length (t ∷ ts))) here ∙ ap (λ b. cond b 0 (length (t ∷ ts))) f)

  none-placed : (ts : List Operation) → position_or_len (is_at_stage k) ts ≡ length ts → position (is_at_stage k) ts ≡ None
  none-placed ts e =
      let no : nat_lt (position_or_len (is_at_stage k) ts) (length ts) ≡ false = grind (arith, nat_tests, e) in
      ap (λ b. cond b (Some (position_or_len (is_at_stage k) ts)) None) no

  module _ (ts : List Operation) (r : StagesRise 0 ts) (n : ℕ) (at : n ≡ prefix_len before ts) where
    place-here : position_or_len (is_at_stage k) ts ≡ cond (of_stage (slice_get ts n)) n (length ts)
    place-here = place-or 0 ts r ∙ ap (λ m. cond (of_stage (slice_get ts m)) m (length ts)) (sym at)

    -- nothing stands there
    pub placed-none : slice_get ts n ≡ None → position (is_at_stage k) ts ≡ None
    placed-none e = none-placed ts (place-here ∙ ap (λ (o : Option Operation). cond (of_stage o) n (length ts)) e)

    pub placed-some : (t : Operation) → slice_get ts n ≡ Some t → position (is_at_stage k) ts ≡ cond (is_at_stage k t) (Some n) None
    placed-some t e = by (is_at_stage k t) refl
      where
        by : (b : Bool) → is_at_stage k t ≡ b → position (is_at_stage k) ts ≡ cond b (Some n) None
        by true f =
            let here : position_or_len (is_at_stage k) ts ≡ n =
            place-here ∙ ap (λ (o : Option Operation). cond (of_stage o) n (length ts)) e ∙ ap (λ b. cond b n (length ts)) f in
            let within : n < length ts = slice_get_within ts n t e in
            let yes : nat_lt (position_or_len (is_at_stage k) ts) (length ts) ≡ true = grind (arith, nat_tests, here, within) in
            ap (λ b. cond b (Some (position_or_len (is_at_stage k) ts)) None) yes ∙ ap (λ m. Some m) here
        by false f =
            none-placed ts (place-here ∙ ap (λ (o : Option Operation). cond (of_stage o) n (length ts)) e ∙ ap (λ b. cond b n (length ts)) f)

  any-or : (ts : List Operation) → nat_lt (position_or_len (is_at_stage k) ts) (length ts) ≡ list_any (is_at_stage k) ts
  any-or [] = refl
  any-or (t ∷ ts) = by (is_at_stage k t) refl (any-or ts)
    where
      by : (b : Bool) → is_at_stage k t ≡ b → nat_lt (position_or_len (is_at_stage k) ts) (length ts) ≡ list_any (is_at_stage k) ts
          → nat_lt (position_or_len (is_at_stage k) (t ∷ ts)) (length (t ∷ ts)) ≡ list_any (is_at_stage k) (t ∷ ts)
      by true f rest = grind (arith, nat_tests, f)
      by false f rest = grind (arith, nat_tests, f, rest)

  pub any-placed : (ts : List Operation) → is_some (position (is_at_stage k) ts) ≡ list_any (is_at_stage k) ts
  any-placed ts = by (nat_lt (position_or_len (is_at_stage k) ts) (length ts)) ∙ any-or ts
    where
      by : (b : Bool) → is_some (cond b (Some (position_or_len (is_at_stage k) ts)) None) ≡ b
      by true = refl
      by false = refl
