-- What a walk finds in a leaf, whose elements are all alike.
use Rattle.std.proofs.Common.{◌≡◌, ℕ, zero, suc, ◌+◌, ◌-◌, ◌<◌, ◌≤◌, Bool, true, false, cond, ◌&&◌, nat_eq, List, [], ◌∷◌, ◌++◌, refl, sym, ◌∙◌, ap, arith, drop, length, map, take}
use Rattle.std.proofs.lemmas.Bool.Decides.{nat_tests}
use Rattle.std.proofs.lemmas.List.{length-drop, length-take-le}
use Rattle.ft_base.specs.Scan.{len, place, within}
use Rattle.ft_tree_leaves.proofs.Runs.{len-seen}
use Rattle.ft_changes.specs.PlacedRuns.{with_gone_behind}
use Rattle.ft_changes.specs.ShownRuns.{GoneRun, shown_in_run}
use Rattle.ft_changes.proofs.RunsInOrder.{gone_places, with_all_gone}
use Rattle.ft_tree_changes.proofs.WalkedRuns.{gone-after, gone-behind, gone-hidden, gone-inside, gone-unseen, in_parts, none-inside}

-- the runs with n elements at place p behind them, if there are any
abbrev pub with_some_behind : List GoneRun → ℕ → ℕ → List GoneRun
with_some_behind runs p n = cond (nat_eq n 0) runs (with_gone_behind runs p n)

module _ {A : Type 0} (seen shown : A → Bool) (p q : ℕ) where
  -- nothing goes behind the range
  pub gone-past : (n i : ℕ) (xs : List A) → q ≤ n → gone_places n i seen shown p q xs ≡ []
  gone-past n i [] h = refl
  gone-past n i (x ∷ xs) h = by (λ m j. gone-past m j xs) (seen x) refl (shown x) refl
    where
      by : ((m j : ℕ) → q ≤ m → gone_places m j seen shown p q xs ≡ []) → (b : Bool) → seen x ≡ b → (s : Bool) → shown x ≡ s
          → gone_places n i seen shown p q (x ∷ xs) ≡ []
      by rest true b true s =
          let behind : within p q n ≡ false = none-inside p q n h in
          grind (arith, b, s, behind, rest (suc n) (suc i) (omega (arith, h)))
      by rest true b false s =
          let behind : within p q n ≡ false = none-inside p q n h in
          grind (arith, b, s, behind, rest (suc n) i (omega (arith, h)))
      by rest false b true s = grind (arith, b, s, rest n (suc i) h)
      by rest false b false s = grind (arith, b, s, rest n i h)

module _ {A U : Type 0} (seen shown : A → Bool) (f : U → A) (p q : ℕ) where
  -- elements before the range
  gone-before : ((u : U) → seen (f u) ≡ true) → ((u : U) → shown (f u) ≡ true) → (n i : ℕ) (us : List U) (back : List A)
      → (0 < length us → n + length us ≤ p)
      → gone_places n i seen shown p q (map f us ++ back) ≡ gone_places (n + length us) (i + length us) seen shown p q back
  gone-before sees shows n i [] back h =
      let none : n ≡ n + 0 = omega arith in
      let same : i ≡ i + 0 = omega arith in
      ap (λ m. gone_places m i seen shown p q back) none ∙ ap (λ j. gone_places (n + 0) j seen shown p q back) same
  gone-before sees shows n i (u ∷ us) back h =
      let all = len-seen seen f sees (u ∷ us) in
      let each = len-seen shown f shows (u ∷ us) in
      gone-behind seen shown p q n i (map f (u ∷ us)) back (omega (arith, all, h (omega arith)))
      ∙ ap (λ k. gone_places (n + k) (i + len shown (map f (u ∷ us))) seen shown p q back) all
      ∙ ap (λ k. gone_places (n + length (u ∷ us)) (i + k) seen shown p q back) each

  gone-rest : ((u : U) → seen (f u) ≡ true) → ((u : U) → shown (f u) ≡ true) → (n i : ℕ) (us : List U) (back : List A)
      → (0 < length us → q ≤ n)
      → gone_places n i seen shown p q (map f us ++ back) ≡ gone_places (n + length us) (i + length us) seen shown p q back
  gone-rest sees shows n i [] back h =
      let none : n ≡ n + 0 = omega arith in
      let same : i ≡ i + 0 = omega arith in
      ap (λ m. gone_places m i seen shown p q back) none ∙ ap (λ j. gone_places (n + 0) j seen shown p q back) same
  gone-rest sees shows n i (u ∷ us) back h = gone-after seen shown f p q sees shows n i (u ∷ us) back (h (omega arith))

  gone-middle : ((u : U) → seen (f u) ≡ true) → ((u : U) → shown (f u) ≡ true) → (runs : List GoneRun) (n i : ℕ) (us : List U) (back : List A)
      → (0 < length us → (p ≤ n) × (n + length us ≤ q))
      → with_all_gone runs (gone_places n i seen shown p q (map f us ++ back))
      ≡ with_all_gone (with_some_behind runs i (length us)) (gone_places (n + length us) i seen shown p q back)
  gone-middle sees shows runs n i [] back h =
      let none : n ≡ n + 0 = omega arith in
      ap (λ m. with_all_gone runs (gone_places m i seen shown p q back)) none
  gone-middle sees shows runs n i (u ∷ us) back h =
      let some : (p ≤ n) × (n + suc (length us) ≤ q) = h (omega arith) in
      let positive : nat_eq (suc (length us)) 0 ≡ false = grind (arith, nat_tests) in
      gone-inside seen shown f p q sees shows runs n i u us back some.0 some.1
      ∙ ap (λ b. with_all_gone (cond b runs (with_gone_behind runs i (suc (length us))))
      (gone_places (n + suc (length us)) i seen shown p q back)) (sym positive)

  -- a leaf that is seen and shown, in three parts
  gone-parts : ((u : U) → seen (f u) ≡ true) → ((u : U) → shown (f u) ≡ true) → (runs : List GoneRun) (n i : ℕ) (us vs ws : List U) (back : List A)
      → (0 < length us → n + length us ≤ p)
      → (0 < length vs → (p ≤ n + length us) × (n + length us + length vs ≤ q))
      → (0 < length ws → q ≤ n + length us + length vs)
      → with_all_gone runs (gone_places n i seen shown p q (map f us ++ (map f vs ++ (map f ws ++ back))))
      ≡ with_all_gone (with_some_behind runs (i + length us) (length vs))
      (gone_places (n + length us + length vs + length ws) (i + length us + length ws) seen shown p q back)
  gone-parts sees shows runs n i us vs ws back before inside behind =
      ap (with_all_gone runs) (gone-before sees shows n i us (map f vs ++ (map f ws ++ back)) before)
      ∙ gone-middle sees shows runs (n + length us) (i + length us) vs (map f ws ++ back) inside
      ∙ ap (with_all_gone (with_some_behind runs (i + length us) (length vs)))
      (gone-rest sees shows (n + length us + length vs) (i + length us) ws back behind)

  gone-both : ((u : U) → seen (f u) ≡ true) → ((u : U) → shown (f u) ≡ true) → (runs : List GoneRun) (n i k c : ℕ) (us : List U) (back : List A)
      → k + c ≤ length us → (0 < k → n + k ≤ p) → (0 < c → (p ≤ n + k) × (n + k + c ≤ q)) → (k + c < length us → q ≤ n + k + c)
      → with_all_gone runs (gone_places n i seen shown p q (map f us ++ back))
      ≡ with_all_gone (with_some_behind runs (i + k) c) (gone_places (n + length us) (i + (length us - c)) seen shown p q back)
  gone-both sees shows runs n i k c us back fits before inside behind =
      let first : length (take k us) ≡ k = length-take-le k us (omega (arith, fits)) in
      let left : length (drop k us) ≡ length us - k = length-drop k us in
      let middle : length (take c (drop k us)) ≡ c = length-take-le c (drop k us) (omega (arith, fits, left)) in
      let last : length (drop c (drop k us)) ≡ length us - k - c = length-drop c (drop k us) ∙ ap (λ m. m - c) left in
      let ms = take k us in
      let vs = take c (drop k us) in
      let ws = drop c (drop k us) in
      let all : n + length ms + length vs + length ws ≡ n + length us = omega (arith, first, middle, last, fits) in
      let kept : i + length ms + length ws ≡ i + (length us - c) = omega (arith, first, last, fits) in
      ap (λ xs. with_all_gone runs (gone_places n i seen shown p q xs)) (in_parts f k c us back)
      ∙ gone-parts sees shows runs n i ms vs ws back
      (λ h. omega (arith, first, before (omega (arith, h, first))))
      (λ h. let r = inside (omega (arith, h, middle)) in (omega (arith, first, r.0), omega (arith, first, middle, r.1)))
      (λ h. omega (arith, first, middle, behind (omega (arith, h, last))))
      ∙ ap (λ m. with_all_gone (with_some_behind runs (i + length ms) (length vs))
      (gone_places m (i + length ms + length ws) seen shown p q back)) all
      ∙ ap (λ j. with_all_gone (with_some_behind runs (i + length ms) (length vs)) (gone_places (n + length us) j seen shown p q back)) kept
      ∙ ap (λ m. with_all_gone (with_some_behind runs (i + m) (length vs))
      (gone_places (n + length us) (i + (length us - c)) seen shown p q back)) first
      ∙ ap (λ m. with_all_gone (with_some_behind runs (i + k) m) (gone_places (n + length us) (i + (length us - c)) seen shown p q back)) middle

  -- a walk over a leaf, of which k elements stand before those c that go
  pub gone-leaf : (b s : Bool) → ((u : U) → seen (f u) ≡ b) → ((u : U) → shown (f u) ≡ s)
      → (runs : List GoneRun) (n i k c : ℕ) (us : List U) (back : List A)
      → k + c ≤ cond (b && s) (length us) 0 → (0 < k → n + k ≤ p) → (0 < c → (p ≤ n + k) × (n + k + c ≤ q))
      → (k + c < cond (b && s) (length us) 0 → q ≤ n + k + c)
      → with_all_gone runs (gone_places n i seen shown p q (map f us ++ back))
      ≡ with_all_gone (with_some_behind runs (i + k) c) (gone_places (n + cond b (length us) 0) (i + (cond s (length us) 0 - c)) seen shown p q back)
  gone-leaf true true sees shows runs n i k c us back fits before inside behind =
      gone-both sees shows runs n i k c us back fits before inside behind
  gone-leaf true false sees hides runs n i k c us back fits before inside behind =
      let none : c ≡ 0 = omega (arith, fits) in
      let same : i ≡ i + (0 - c) = omega (arith, none) in
      ap (with_all_gone runs) (gone-hidden seen shown f p q sees hides n i us back)
      ∙ ap (λ j. with_all_gone runs (gone_places (n + length us) j seen shown p q back)) same
      ∙ ap (λ m. with_all_gone (with_some_behind runs (i + k) m) (gone_places (n + length us) (i + (0 - c)) seen shown p q back)) (sym none)
  gone-leaf false s hides shows runs n i k c us back fits before inside behind =
      let none : c ≡ 0 = omega (arith, fits) in
      let stays : n ≡ n + 0 = omega arith in
      ap (with_all_gone runs) (gone-unseen seen shown f p q s hides shows n i us back)
      ∙ ap (λ j. with_all_gone runs (gone_places n j seen shown p q back)) (more s none)
      ∙ ap (λ m. with_all_gone runs (gone_places m (i + (cond s (length us) 0 - c)) seen shown p q back)) stays
      ∙ ap (λ m. with_all_gone (with_some_behind runs (i + k) m)
      (gone_places (n + 0) (i + (cond s (length us) 0 - c)) seen shown p q back)) (sym none)
    where
      more : (t : Bool) → c ≡ 0 → cond t (i + length us) i ≡ i + (cond t (length us) 0 - c)
      more true e = omega (arith, e)
      more false e = omega (arith, e)

module _ {A U : Type 0} (past shown : A → Bool) (f : U → A) where
  -- a run that goes on behind elements that are alike
  pub run-past : (s : Bool) → ((u : U) → past (f u) ≡ true) → ((u : U) → shown (f u) ≡ s) → (us : List U) (back : List A)
      → shown_in_run past shown (map f us ++ back) ≡ cond s (length us) 0 + shown_in_run past shown back
  run-past true passes shows [] back = omega arith
  run-past false passes shows [] back = omega arith
  run-past true passes shows (u ∷ us) back = let rest = run-past true passes shows us back in grind (arith, passes u, shows u, rest)
  run-past false passes shows (u ∷ us) back = let rest = run-past false passes shows us back in grind (arith, passes u, shows u, rest)

  -- and one that ends at them
  pub run-ends : ((u : U) → past (f u) ≡ false) → (us : List U) (back : List A) → 0 < length us → shown_in_run past shown (map f us ++ back) ≡ 0
  run-ends stops [] back some = absurd (omega arith)
  run-ends stops (u ∷ us) back some = grind (arith, stops u)

  pub len-alike : (s : Bool) → ((u : U) → shown (f u) ≡ s) → (us : List U) → len shown (map f us) ≡ cond s (length us) 0
  len-alike true shows [] = refl
  len-alike false shows [] = refl
  len-alike true shows (u ∷ us) = let rest = len-alike true shows us in grind (arith, shows u, rest)
  len-alike false shows (u ∷ us) = let rest = len-alike false shows us in grind (arith, shows u, rest)

pub run-most : {A : Type 0} (past shown : A → Bool) (xs : List A) → shown_in_run past shown xs ≤ length xs
run-most past shown [] = omega arith
run-most past shown (x ∷ xs) = let rest = run-most past shown xs in grind (arith, rest)

pub place-most : {A : Type 0} (seen : A → Bool) (p : ℕ) (xs : List A) → place seen p xs ≤ length xs
place-most seen zero xs = omega arith
place-most seen (suc p) [] = omega arith
place-most seen (suc p) (x ∷ xs) = omega (arith, place-most seen (cond (seen x) p (suc p)) xs)
