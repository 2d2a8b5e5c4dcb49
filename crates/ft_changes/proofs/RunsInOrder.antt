-- Runs are the same found from the front on as by definition, which joins them from the back.
use Rattle.std.proofs.Common.{◌≡◌, ℕ, suc, ◌+◌, Bool, true, false, cond, not, ◌&&◌, nat_eq, List, [], ◌∷◌, ◌++◌, refl, sym, ◌∙◌, ap, arith}
use Rattle.std.proofs.lemmas.Bool.Decides.{nat_tests}
use Rattle.ft_base.specs.Scan.{one_more_if, within}
use Rattle.ft_changes.specs.PlacedRuns.{with_changed_behind, with_gone_behind}
use Rattle.ft_changes.specs.ShownRuns.{ChangedRun, GoneRun, changed_runs_from, gone_runs_from, with_changed_run, with_gone}

same-test : (m n : ℕ) → nat_eq m n ≡ nat_eq n m
same-test m n = grind (arith, nat_tests)

-- ---- runs that go away

-- the places of the elements that go
abbrev pub gone_places : {A : Type 0} → ℕ → ℕ → (A → Bool) → (A → Bool) → ℕ → ℕ → List A → List ℕ
gone_places n i seen shown p q [] = []
gone_places n i seen shown p q (x ∷ xs) =
    let goes = seen x && within p q n in
    let places = gone_places (one_more_if (seen x) n) (one_more_if (shown x && not goes) i) seen shown p q xs in
    cond (shown x && goes) (i ∷ places) places

-- the runs of places, from the last one on
abbrev gone_of : List ℕ → List GoneRun
gone_of [] = []
gone_of (p ∷ ps) = with_gone true p (gone_of ps)

-- the runs with places behind them, from the first one on
abbrev pub with_all_gone : List GoneRun → List ℕ → List GoneRun
with_all_gone runs [] = runs
with_all_gone runs (p ∷ ps) = with_all_gone (with_gone_behind runs p 1) ps

gone-or_not : (b : Bool) (i : ℕ) (ps : List ℕ) → with_gone b i (gone_of ps) ≡ gone_of (cond b (i ∷ ps) ps)
gone-or_not true i ps = refl
gone-or_not false i ps = refl

module _ {A : Type 0} (seen shown : A → Bool) (p q : ℕ) where
  gone-of_places : (n i : ℕ) (xs : List A) → gone_runs_from n i seen shown p q xs ≡ gone_of (gone_places n i seen shown p q xs)
  gone-of_places n i [] = refl
  gone-of_places n i (x ∷ xs) =
      let goes = seen x && within p q n in
      let m = one_more_if (seen x) n in
      let j = one_more_if (shown x && not goes) i in
      ap (with_gone (shown x && goes) i) (gone-of_places m j xs) ∙ gone-or_not (shown x && goes) i (gone_places m j seen shown p q xs)

-- a place before the runs and one behind them
gone-both : (q : ℕ) (runs : List GoneRun) (p : ℕ) → with_gone true q (with_gone_behind runs p 1) ≡ with_gone_behind (with_gone true q runs) p 1
gone-both q [] p = grind (arith, same-test p q)
gone-both q (run ∷ []) p = grind (arith, nat_tests, same-test run.place q, same-test q p)
gone-both q (run ∷ next ∷ runs) p = grind arith

gone-before : (q : ℕ) (runs : List GoneRun) (ps : List ℕ) → with_gone true q (with_all_gone runs ps) ≡ with_all_gone (with_gone true q runs) ps
gone-before q runs [] = refl
gone-before q runs (p ∷ ps) = gone-before q (with_gone_behind runs p 1) ps ∙ ap (λ rs. with_all_gone rs ps) (gone-both q runs p)

gone-both_ways : (ps : List ℕ) → gone_of ps ≡ with_all_gone [] ps
gone-both_ways [] = refl
gone-both_ways (p ∷ ps) = ap (with_gone true p) (gone-both_ways ps) ∙ gone-before p [] ps

-- the runs are those that the places make one after another
pub gone_runs-placed : {A : Type 0} (seen shown : A → Bool) (p q n i : ℕ) (xs : List A)
    → gone_runs_from n i seen shown p q xs ≡ with_all_gone [] (gone_places n i seen shown p q xs)
gone_runs-placed seen shown p q n i xs = gone-of_places seen shown p q n i xs ∙ gone-both_ways (gone_places n i seen shown p q xs)

-- ---- runs with other properties

-- the places of the elements that change, with their properties then
abbrev pub changed_places :
    {A P : Type 0} → (P → P → Bool) → (A → P) → (A → A) → ℕ → ℕ → (A → Bool) → (A → Bool) → ℕ → ℕ → List A → List (ℕ × P)
changed_places same props f n i seen shown p q [] = []
changed_places same props f n i seen shown p q (x ∷ xs) =
    let places = changed_places same props f (one_more_if (seen x) n) (one_more_if (shown x) i) seen shown p q xs in
    cond (shown x && (seen x && within p q n) && not (same (props x) (props (f x)))) ((i, props (f x)) ∷ places) places

-- the runs of places, from the last one on
abbrev changed_of : {P : Type 0} → (P → P → Bool) → List (ℕ × P) → List (ChangedRun P)
changed_of same [] = []
changed_of same (p ∷ ps) = with_changed_run same true p.0 p.1 (changed_of same ps)

-- the runs with places behind them, from the first one on
abbrev pub with_all_changed : {P : Type 0} → (P → P → Bool) → List (ChangedRun P) → List (ℕ × P) → List (ChangedRun P)
with_all_changed same runs [] = runs
with_all_changed same runs (p ∷ ps) = with_all_changed same (with_changed_behind same runs p.0 1 p.1) ps

module _ {P : Type 0} (same : P → P → Bool) where
  changed-or_not : (b : Bool) (i : ℕ) (x : P) (ps : List (ℕ × P)) → with_changed_run same b i x (changed_of same ps) ≡ changed_of same (cond b ((i, x) ∷ ps) ps)
  changed-or_not true i x ps = refl
  changed-or_not false i x ps = refl

  module _ {A : Type 0} (props : A → P) (f : A → A) (seen shown : A → Bool) (p q : ℕ) where
    changed-of_places : (n i : ℕ) (xs : List A) → changed_runs_from same props f n i seen shown p q xs ≡ changed_of same (changed_places same props f n i seen shown p q xs)
    changed-of_places n i [] = refl
    changed-of_places n i (x ∷ xs) =
        let b = shown x && (seen x && within p q n) && not (same (props x) (props (f x))) in
        let m = one_more_if (seen x) n in
        let j = one_more_if (shown x) i in
        ap (with_changed_run same b i (props (f x))) (changed-of_places m j xs)
        ∙ changed-or_not b i (props (f x)) (changed_places same props f m j seen shown p q xs)

  module _ (decides : (a b : P) → same a b ≡ true → a ≡ b) (symmetric : (a b : P) → same a b ≡ same b a) where
    -- a place before the runs and one behind them
    changed-both : (i : ℕ) (x : P) (runs : List (ChangedRun P)) (j : ℕ) (y : P)
        → with_changed_run same true i x (with_changed_behind same runs j 1 y) ≡ with_changed_behind same (with_changed_run same true i x runs) j 1 y
    changed-both i x [] j y = grind (arith, same-test j (suc i), symmetric x y, decides x y, decides y x)
    changed-both i x (run ∷ []) j y = by (nat_eq run.place (suc i)) refl (same run.props x) refl
      where
        by : (b : Bool) → nat_eq run.place (suc i) ≡ b → (e : Bool) → same run.props x ≡ e
            → with_changed_run same true i x (with_changed_behind same (run ∷ []) j 1 y) ≡ with_changed_behind same (with_changed_run same true i x (run ∷ [])) j 1 y
        by true b true e = let equal : run.props ≡ x = decides run.props x e in grind (arith, nat_tests, b, e, equal)
        by true b false e = grind (arith, nat_tests, b, e)
        by false b e' e = grind (arith, nat_tests, b, e)
    changed-both i x (run ∷ next ∷ runs) j y = grind arith

    changed-before : (i : ℕ) (x : P) (runs : List (ChangedRun P)) (ps : List (ℕ × P))
        → with_changed_run same true i x (with_all_changed same runs ps) ≡ with_all_changed same (with_changed_run same true i x runs) ps
    changed-before i x runs [] = refl
    changed-before i x runs (p ∷ ps) =
        changed-before i x (with_changed_behind same runs p.0 1 p.1) ps ∙ ap (λ rs. with_all_changed same rs ps) (changed-both i x runs p.0 p.1)

    changed-both_ways : (ps : List (ℕ × P)) → changed_of same ps ≡ with_all_changed same [] ps
    changed-both_ways [] = refl
    changed-both_ways (p ∷ ps) = ap (with_changed_run same true p.0 p.1) (changed-both_ways ps) ∙ changed-before p.0 p.1 [] ps

    -- the runs are those that the places make one after another
    pub changed_runs-placed : {A : Type 0} (props : A → P) (f : A → A) (seen shown : A → Bool) (p q n i : ℕ) (xs : List A)
        → changed_runs_from same props f n i seen shown p q xs ≡ with_all_changed same [] (changed_places same props f n i seen shown p q xs)
    changed_runs-placed props f seen shown p q n i xs =
        changed-of_places props f seen shown p q n i xs ∙ changed-both_ways (changed_places same props f n i seen shown p q xs)

-- ---- more behind the last one

pub gone-joined : (runs old new : List GoneRun) (last : GoneRun) (p n : ℕ) → old ≡ runs ++ last ∷ [] → nat_eq last.place p ≡ true
    → new ≡ runs ++ record { place = last.place; count = last.count + n } ∷ [] → new ≡ with_gone_behind old p n
gone-joined runs old new last p n e s d = d ∙ sym (ap (λ rs. with_gone_behind rs p n) e ∙ at runs)
  where
    at : (rs : List GoneRun) → with_gone_behind (rs ++ last ∷ []) p n ≡ rs ++ record { place = last.place; count = last.count + n } ∷ []
    at [] = ap (λ b. cond b (record { place = last.place; count = last.count + n } ∷ []) (last ∷ record { place = p; count = n } ∷ [])) s
    at (r ∷ []) = ap (λ b. r ∷ cond b (record { place = last.place; count = last.count + n } ∷ []) (last ∷ record { place = p; count = n } ∷ [])) s
    at (r ∷ t ∷ rs) = ap (λ us. r ∷ us) (at (t ∷ rs))

pub gone-apart : (runs old new : List GoneRun) (last : GoneRun) (p n : ℕ) → old ≡ runs ++ last ∷ [] → nat_eq last.place p ≡ false
    → new ≡ (runs ++ last ∷ []) ++ record { place = p; count = n } ∷ [] → new ≡ with_gone_behind old p n
gone-apart runs old new last p n e s d = d ∙ sym (ap (λ rs. with_gone_behind rs p n) e ∙ at runs)
  where
    at : (rs : List GoneRun) → with_gone_behind (rs ++ last ∷ []) p n ≡ (rs ++ last ∷ []) ++ record { place = p; count = n } ∷ []
    at [] = ap (λ b. cond b (record { place = last.place; count = last.count + n } ∷ []) (last ∷ record { place = p; count = n } ∷ [])) s
    at (r ∷ []) = ap (λ b. r ∷ cond b (record { place = last.place; count = last.count + n } ∷ []) (last ∷ record { place = p; count = n } ∷ [])) s
    at (r ∷ t ∷ rs) = ap (λ us. r ∷ us) (at (t ∷ rs))

module _ {P : Type 0} (same : P → P → Bool) where
  pub changed-joined : (runs old new : List (ChangedRun P)) (last : ChangedRun P) (p n : ℕ) (props : P) → old ≡ runs ++ last ∷ []
      → (nat_eq (last.place + last.count) p && same last.props props) ≡ true
      → new ≡ runs ++ record { place = last.place; count = last.count + n; props = last.props } ∷ [] → new ≡ with_changed_behind same old p n props
  changed-joined runs old new last p n props e s d = d ∙ sym (ap (λ rs. with_changed_behind same rs p n props) e ∙ at runs)
    where
      longer : List (ChangedRun P)
      longer = record { place = last.place; count = last.count + n; props = last.props } ∷ []

      at : (rs : List (ChangedRun P)) → with_changed_behind same (rs ++ last ∷ []) p n props ≡ rs ++ longer
      at [] = ap (λ b. cond b longer (last ∷ record { place = p; count = n; props = props } ∷ [])) s
      at (r ∷ []) = ap (λ b. r ∷ cond b longer (last ∷ record { place = p; count = n; props = props } ∷ [])) s
      at (r ∷ t ∷ rs) = ap (λ us. r ∷ us) (at (t ∷ rs))

  pub changed-apart : (runs old new : List (ChangedRun P)) (last : ChangedRun P) (p n : ℕ) (props : P) → old ≡ runs ++ last ∷ []
      → (nat_eq (last.place + last.count) p && same last.props props) ≡ false
      → new ≡ (runs ++ last ∷ []) ++ record { place = p; count = n; props = props } ∷ [] → new ≡ with_changed_behind same old p n props
  changed-apart runs old new last p n props e s d = d ∙ sym (ap (λ rs. with_changed_behind same rs p n props) e ∙ at runs)
    where
      longer : List (ChangedRun P)
      longer = record { place = last.place; count = last.count + n; props = last.props } ∷ []

      at : (rs : List (ChangedRun P)) → with_changed_behind same (rs ++ last ∷ []) p n props ≡ (rs ++ last ∷ []) ++ record { place = p; count = n; props = props } ∷ []
      at [] = ap (λ b. cond b longer (last ∷ record { place = p; count = n; props = props } ∷ [])) s
      at (r ∷ []) = ap (λ b. r ∷ cond b longer (last ∷ record { place = p; count = n; props = props } ∷ [])) s
      at (r ∷ t ∷ rs) = ap (λ us. r ∷ us) (at (t ∷ rs))
