-- What a walk that seeks other properties finds in elements that are alike, many at a time.
use Rattle.std.proofs.Common.{◌≡◌, ℕ, suc, ◌+◌, ◌-◌, ◌≤◌, ◌<◌, Bool, true, false, cond, not, ◌&&◌, nat_eq, List, [], ◌∷◌, ◌++◌, refl, sym, ◌∙◌, ap, arith, drop, length, map, take}
use Rattle.std.proofs.lemmas.Bool.Decides.{nat_tests}
use Rattle.std.proofs.lemmas.List.{length-drop, length-take-le}
use Rattle.ft_base.specs.Scan.{one_more_if, within}
use Rattle.ft_changes.specs.PlacedRuns.{with_changed_behind}
use Rattle.ft_changes.specs.ShownRuns.{ChangedRun}
use Rattle.ft_changes.proofs.RunsInOrder.{changed_places, with_all_changed}
use Rattle.ft_tree_changes.proofs.WalkedRuns.{in_parts, none-before, none-inside, one-inside}

pub either-way : {A : Type 0} (b : Bool) (x : A) → cond b x x ≡ x
either-way true x = refl
either-way false x = refl

pub if-none : (b : Bool) (n : ℕ) → n ≡ n + cond b 0 0
if-none true n = omega arith
if-none false n = omega arith

pub if-more : (b : Bool) (n k : ℕ) → one_more_if b n + cond b k 0 ≡ n + cond b (suc k) 0
if-more true n k = omega arith
if-more false n k = omega arith

-- a list of runs with n elements at place p behind them that change from x to y
abbrev pub with_part_changed : {P : Type 0} → (P → P → Bool) → List (ChangedRun P) → ℕ → ℕ → P → P → List (ChangedRun P)
with_part_changed same runs p n x y = cond (nat_eq n 0) runs (cond (same x y) runs (with_changed_behind same runs p n y))

-- ---- many that change at once

module _ {P : Type 0} (same : P → P → Bool) (itself : (x : P) → same x x ≡ true) where
  -- more behind the last run, which ends there with the same properties
  changed-longer : (runs : List (ChangedRun P)) (p m n : ℕ) (y : P)
      → with_changed_behind same (with_changed_behind same runs p m y) (p + m) n y ≡ with_changed_behind same runs p (m + n) y
  changed-longer [] p m n y = let here : nat_eq (p + m) (p + m) ≡ true = grind (arith, nat_tests) in grind (arith, here, itself y)
  changed-longer (run ∷ []) p m n y = by (nat_eq (run.place + run.count) p) refl (same run.props y) refl
    where
      by : (b : Bool) → nat_eq (run.place + run.count) p ≡ b → (e : Bool) → same run.props y ≡ e
          → with_changed_behind same (with_changed_behind same (run ∷ []) p m y) (p + m) n y ≡ with_changed_behind same (run ∷ []) p (m + n) y
      by true b true e =
          let joins : nat_eq (run.place + (run.count + m)) (p + m) ≡ true = grind (arith, nat_tests, b) in
          let sum : run.count + m + n ≡ run.count + (m + n) = omega arith in
          grind (arith, b, e, joins, sum)
      by true b false e = let here : nat_eq (p + m) (p + m) ≡ true = grind (arith, nat_tests) in grind (arith, b, e, here, itself y)
      by false b e' e = let here : nat_eq (p + m) (p + m) ≡ true = grind (arith, nat_tests) in grind (arith, b, e, here, itself y)
  changed-longer (run ∷ next ∷ []) p m n y = by (nat_eq (next.place + next.count) p) refl (same next.props y) refl
    where
      by : (b : Bool) → nat_eq (next.place + next.count) p ≡ b → (e : Bool) → same next.props y ≡ e
          → with_changed_behind same (with_changed_behind same (run ∷ next ∷ []) p m y) (p + m) n y
          ≡ with_changed_behind same (run ∷ next ∷ []) p (m + n) y
      by true b true e =
          let joins : nat_eq (next.place + (next.count + m)) (p + m) ≡ true = grind (arith, nat_tests, b) in
          let sum : next.count + m + n ≡ next.count + (m + n) = omega arith in
          grind (arith, b, e, joins, sum)
      by true b false e = let here : nat_eq (p + m) (p + m) ≡ true = grind (arith, nat_tests) in grind (arith, b, e, here, itself y)
      by false b e' e = let here : nat_eq (p + m) (p + m) ≡ true = grind (arith, nat_tests) in grind (arith, b, e, here, itself y)
  changed-longer (run ∷ next ∷ more ∷ runs) p m n y = ap (λ rs. run ∷ rs) (changed-longer (next ∷ more ∷ runs) p m n y)

-- ---- behind the range

module _ {A P : Type 0} (same : P → P → Bool) (props : A → P) (mark : A → A) (seen shown : A → Bool) (p q : ℕ) where
  pub changed-past : (n i : ℕ) (es : List A) → q ≤ n → changed_places same props mark n i seen shown p q es ≡ []
  changed-past n i [] h = refl
  changed-past n i (x ∷ es) h =
      let behind : within p q n ≡ false = none-inside p q n h in
      let rest = changed-past (one_more_if (seen x) n) (one_more_if (shown x) i) es (later (seen x)) in
      grind (arith, behind, rest)
    where
      later : (b : Bool) → q ≤ one_more_if b n
      later true = omega (arith, h)
      later false = h

-- ---- elements that are alike

module _ {A U P : Type 0} (same : P → P → Bool) (itself : (a : P) → same a a ≡ true) (props : A → P) (mark : A → A)
    (seen shown : A → Bool) (f : U → A) (p q : ℕ) (b s : Bool) (x y : P)
    (sees : (u : U) → seen (f u) ≡ b) (shows : (u : U) → shown (f u) ≡ s) (had : (u : U) → props (f u) ≡ x)
    (has : (u : U) → props (mark (f u)) ≡ y) where
  abbrev places : ℕ → ℕ → List A → List (ℕ × P)
  places n i es = changed_places same props mark n i seen shown p q es

  abbrev changes : ℕ → Bool
  changes n = s && (b && within p q n) && not (same x y)

  step : (n i : ℕ) (u : U) (es : List A)
      → places n i (f u ∷ es) ≡ cond (changes n) ((i, y) ∷ places (one_more_if b n) (one_more_if s i) es)
      (places (one_more_if b n) (one_more_if s i) es)
  step n i u es = grind (arith, sees u, shows u, had u, has u)

  -- none of them changes
  changed-none : (n i : ℕ) (us : List U) (back : List A) → ((j : ℕ) → n ≤ j → j < n + length us → changes j ≡ false)
      → places n i (map f us ++ back) ≡ places (n + cond b (length us) 0) (i + cond s (length us) 0) back
  changed-none n i [] back none = ap (λ m. places m i back) (if-none b n) ∙ ap (λ j. places (n + cond b 0 0) j back) (if-none s i)
  changed-none n i (u ∷ us) back none =
      step n i u (map f us ++ back)
      ∙ ap (λ t. cond t ((i, y) ∷ places (one_more_if b n) (one_more_if s i) (map f us ++ back))
      (places (one_more_if b n) (one_more_if s i) (map f us ++ back)))
      (none n (omega arith) (omega arith))
      ∙ changed-none (one_more_if b n) (one_more_if s i) us back (λ j l h. none j (later b l) (within_more b h))
      ∙ ap (λ m. places m (one_more_if s i + cond s (length us) 0) back) (if-more b n (length us))
      ∙ ap (λ j. places (n + cond b (suc (length us)) 0) j back) (if-more s i (length us))
    where
      later : (c : Bool) {j : ℕ} → one_more_if c n ≤ j → n ≤ j
      later true l = omega (arith, l)
      later false l = l

      within_more : (c : Bool) {j : ℕ} → j < one_more_if c n + length us → j < n + suc (length us)
      within_more true h = omega (arith, h)
      within_more false h = omega (arith, h)

  -- all of them do
  changed-all : b ≡ true → s ≡ true → same x y ≡ false → (runs : List (ChangedRun P)) (n i : ℕ) (u : U) (us : List U) (back : List A)
      → p ≤ n → n + suc (length us) ≤ q
      → with_all_changed same runs (places n i (f u ∷ map f us ++ back))
      ≡ with_all_changed same (with_changed_behind same runs i (suc (length us)) y) (places (n + suc (length us)) (i + suc (length us)) back)
  changed-all seen_all shown_all differ runs n i u [] back h k =
      let next : suc n ≡ n + 1 = omega arith in
      let more : suc i ≡ i + 1 = omega arith in
      let first = step n i u back in
      grind (arith, seen_all, shown_all, differ, first, one-inside p q n h (omega (arith, k)), next, more)
  changed-all seen_all shown_all differ runs n i u (v ∷ us) back h k =
      let next : suc n + suc (length us) ≡ n + suc (suc (length us)) = omega arith in
      let more : suc i + suc (length us) ≡ i + suc (suc (length us)) = omega arith in
      let beside : suc i ≡ i + 1 = omega arith in
      let sum : 1 + suc (length us) ≡ suc (suc (length us)) = omega arith in
      let first = step n i u (f v ∷ map f us ++ back) in
      let rest = changed-all seen_all shown_all differ (with_changed_behind same runs i 1 y) (suc n) (suc i) v us back (omega (arith, h))
      (omega (arith, k)) in
      let joined = ap (λ j. with_changed_behind same (with_changed_behind same runs i 1 y) j (suc (length us)) y) beside
      ∙ changed-longer same itself runs i 1 (suc (length us)) y ∙ ap (λ m. with_changed_behind same runs i m y) sum in
      grind (arith, seen_all, shown_all, differ, first, one-inside p q n h (omega (arith, k)), rest, joined, next, more)

  part : b ≡ true → s ≡ true → same x y ≡ false → (runs : List (ChangedRun P)) (n i : ℕ) (us : List U) (back : List A)
      → (0 < length us → (p ≤ n) × (n + length us ≤ q))
      → with_all_changed same runs (places n i (map f us ++ back))
      ≡ with_all_changed same (cond (nat_eq (length us) 0) runs (with_changed_behind same runs i (length us) y))
      (places (n + length us) (i + length us) back)
  part seen_all shown_all differ runs n i [] back h =
      let none : n ≡ n + 0 = omega arith in
      let same_place : i ≡ i + 0 = omega arith in
      ap (λ m. with_all_changed same runs (places m i back)) none ∙ ap (λ j. with_all_changed same runs (places (n + 0) j back)) same_place
  part seen_all shown_all differ runs n i (u ∷ us) back h =
      let some : (p ≤ n) × (n + suc (length us) ≤ q) = h (omega arith) in
      let positive : nat_eq (suc (length us)) 0 ≡ false = grind (arith, nat_tests) in
      changed-all seen_all shown_all differ runs n i u us back some.0 some.1
      ∙ ap (λ t. with_all_changed same (cond t runs (with_changed_behind same runs i (suc (length us)) y))
      (places (n + suc (length us)) (i + suc (length us)) back)) (sym positive)

  -- the same where elements before them and behind them stay
  parts : b ≡ true → s ≡ true → same x y ≡ false → (runs : List (ChangedRun P)) (n i : ℕ) (us vs ws : List U) (back : List A)
      → (0 < length us → n + length us ≤ p)
      → (0 < length vs → (p ≤ n + length us) × (n + length us + length vs ≤ q))
      → (0 < length ws → q ≤ n + length us + length vs)
      → with_all_changed same runs (places n i (map f us ++ (map f vs ++ (map f ws ++ back))))
      ≡ with_all_changed same (cond (nat_eq (length vs) 0) runs (with_changed_behind same runs (i + length us) (length vs) y))
      (places (n + length us + length vs + length ws) (i + length us + length vs + length ws) back)
  parts seen_all shown_all differ runs n i us vs ws back before inside behind =
      let runs_then = cond (nat_eq (length vs) 0) runs (with_changed_behind same runs (i + length us) (length vs) y) in
      ap (with_all_changed same runs) (stays n i us (map f vs ++ (map f ws ++ back))
      (λ j l h. none-before p q j (omega (arith, h, before (omega (arith, l, h))))))
      ∙ part seen_all shown_all differ runs (n + length us) (i + length us) vs (map f ws ++ back) inside
      ∙ ap (with_all_changed same runs_then)
      (stays (n + length us + length vs) (i + length us + length vs) ws back
      (λ j l h. none-inside p q j (omega (arith, l, behind (omega (arith, l, h))))))
    where
      stays : (m j : ℕ) (zs : List U) (es : List A) → ((k : ℕ) → m ≤ k → k < m + length zs → within p q k ≡ false)
          → places m j (map f zs ++ es) ≡ places (m + length zs) (j + length zs) es
      stays m j zs es out =
          changed-none m j zs es (λ k l h. let none = out k l h in grind (arith, seen_all, shown_all, none))
          ∙ ap (λ t. places (m + cond t (length zs) 0) (j + cond s (length zs) 0) es) seen_all
          ∙ ap (λ t. places (m + length zs) (j + cond t (length zs) 0) es) shown_all

  changed-both : b ≡ true → s ≡ true → same x y ≡ false → (runs : List (ChangedRun P)) (n i k c : ℕ) (us : List U) (back : List A)
      → k + c ≤ length us → (0 < k → n + k ≤ p) → (0 < c → (p ≤ n + k) × (n + k + c ≤ q)) → (k + c < length us → q ≤ n + k + c)
      → with_all_changed same runs (places n i (map f us ++ back))
      ≡ with_all_changed same (cond (nat_eq c 0) runs (with_changed_behind same runs (i + k) c y)) (places (n + length us) (i + length us) back)
  changed-both seen_all shown_all differ runs n i k c us back fits before inside behind =
      let first : length (take k us) ≡ k = length-take-le k us (omega (arith, fits)) in
      let left : length (drop k us) ≡ length us - k = length-drop k us in
      let middle : length (take c (drop k us)) ≡ c = length-take-le c (drop k us) (omega (arith, fits, left)) in
      let last : length (drop c (drop k us)) ≡ length us - k - c = length-drop c (drop k us) ∙ ap (λ m. m - c) left in
      let ms = take k us in
      let vs = take c (drop k us) in
      let ws = drop c (drop k us) in
      let all : n + length ms + length vs + length ws ≡ n + length us = omega (arith, first, middle, last, fits) in
      let each : i + length ms + length vs + length ws ≡ i + length us = omega (arith, first, middle, last, fits) in
      ap (λ es. with_all_changed same runs (places n i es)) (in_parts f k c us back)
      ∙ parts seen_all shown_all differ runs n i ms vs ws back
      (λ h. omega (arith, first, before (omega (arith, h, first))))
      (λ h. let r = inside (omega (arith, h, middle)) in (omega (arith, first, r.0), omega (arith, first, middle, r.1)))
      (λ h. omega (arith, first, middle, behind (omega (arith, h, last))))
      ∙ ap (λ m. with_all_changed same (cond (nat_eq (length vs) 0) runs (with_changed_behind same runs (i + length ms) (length vs) y))
      (places m (i + length ms + length vs + length ws) back)) all
      ∙ ap (λ j. with_all_changed same (cond (nat_eq (length vs) 0) runs (with_changed_behind same runs (i + length ms) (length vs) y))
      (places (n + length us) j back)) each
      ∙ ap (λ m. with_all_changed same (cond (nat_eq (length vs) 0) runs (with_changed_behind same runs (i + m) (length vs) y))
      (places (n + length us) (i + length us) back)) first
      ∙ ap (λ m. with_all_changed same (cond (nat_eq m 0) runs (with_changed_behind same runs (i + k) m y))
      (places (n + length us) (i + length us) back)) middle

  -- a walk over elements that are alike, of which k stand before those c that may change
  pub changed-leaf : (runs : List (ChangedRun P)) (n i k c : ℕ) (us : List U) (back : List A)
      → k + c ≤ cond (b && s) (length us) 0 → (0 < k → n + k ≤ p) → (0 < c → (p ≤ n + k) × (n + k + c ≤ q))
      → (k + c < cond (b && s) (length us) 0 → q ≤ n + k + c)
      → with_all_changed same runs (places n i (map f us ++ back))
      ≡ with_all_changed same (with_part_changed same runs (i + k) c x y) (places (n + cond b (length us) 0) (i + cond s (length us) 0) back)
  changed-leaf runs n i k c us back fits before inside behind = by b refl s refl (same x y) refl
    where
      onward : List (ℕ × P)
      onward = places (n + cond b (length us) 0) (i + cond s (length us) 0) back

      stays : ((j : ℕ) → changes j ≡ false) → with_part_changed same runs (i + k) c x y ≡ runs
          → with_all_changed same runs (places n i (map f us ++ back)) ≡ with_all_changed same (with_part_changed same runs (i + k) c x y) onward
      stays none kept =
          ap (with_all_changed same runs) (changed-none n i us back (λ j l h. none j)) ∙ ap (λ rs. with_all_changed same rs onward) (sym kept)

      by : (d : Bool) → b ≡ d → (t : Bool) → s ≡ t → (e : Bool) → same x y ≡ e
          → with_all_changed same runs (places n i (map f us ++ back)) ≡ with_all_changed same (with_part_changed same runs (i + k) c x y) onward
      by true d true t false e =
          let size : cond (b && s) (length us) 0 ≡ length us = grind (arith, d, t) in
          let many : cond b (length us) 0 ≡ length us = ap (λ z. cond z (length us) 0) d in
          let each : cond s (length us) 0 ≡ length us = ap (λ z. cond z (length us) 0) t in
          changed-both d t e runs n i k c us back (omega (arith, fits, size)) before inside (λ h. behind (omega (arith, h, size)))
          ∙ ap (λ m. with_all_changed same (cond (nat_eq c 0) runs (with_changed_behind same runs (i + k) c y))
          (places (n + m) (i + length us) back)) (sym many)
          ∙ ap (λ m. with_all_changed same (cond (nat_eq c 0) runs (with_changed_behind same runs (i + k) c y))
          (places (n + cond b (length us) 0) (i + m) back)) (sym each)
          ∙ ap (λ z. with_all_changed same (cond (nat_eq c 0) runs (cond z runs (with_changed_behind same runs (i + k) c y))) onward) (sym e)
      by true d true t true e =
          stays (λ j. grind (arith, e, d, t))
          (ap (λ z. cond (nat_eq c 0) runs (cond z runs (with_changed_behind same runs (i + k) c y))) e ∙ either-way (nat_eq c 0) runs)
      by true d false t z e =
          let none : c ≡ 0 = omega (arith, fits, ap (λ w. cond w (length us) 0) (ap (λ w. w && s) d ∙ t)) in
          stays (λ j. grind (arith, t)) (ap (λ m. with_part_changed same runs (i + k) m x y) none)
      by false d w t z e =
          let none : c ≡ 0 = omega (arith, fits, ap (λ v. cond (v && s) (length us) 0) d) in
          stays (λ j. grind (arith, d, t)) (ap (λ m. with_part_changed same runs (i + k) m x y) none)
