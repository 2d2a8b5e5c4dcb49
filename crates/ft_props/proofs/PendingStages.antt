-- Pending changes by rising stages: a stage that is added, acknowledged or taken out.
use Rattle.std.proofs.Common.{◌≡◌, ℕ, suc, ◌+◌, ◌<◌, ◌≤◌, Bool, true, false, cond, not, nat_eq, List, [], ◌∷◌, ◌++◌, Some, None, All, refl, sym, ◌∙◌, ap, arith, take, drop, length, eqb→eq, T, subst, append-nil}
use Rattle.std.proofs.Math.Numerals.{one-add}
use Rattle.std.specs.Prelude.{position, slice_get}
use Rattle.std.specs.List.{prefix_len}
use Rattle.std.proofs.lemmas.List.{take_all, drop_all}
use Rattle.std.proofs.lemmas.List.Elements.{All-head, All-tail}
use Rattle.std.proofs.lemmas.Bool.Decides.{nat_tests}
use Rattle.ft_props.specs.declared.properties.Changes.{Changes}
use Rattle.ft_props.specs.Properties.{PropertyList, change, shown_props}
use Rattle.ft_props.specs.Steps.{acked_props}
use Rattle.ft_props.specs.Overlay.{IsBelowStages, StagesRise, without_stage}

abbrev pub Pending : Type 0
Pending = List (ℕ × Changes)

-- ---- what is shown

pub shown_props-append : (props : PropertyList) (xs ys : Pending) → shown_props props (xs ++ ys) ≡ shown_props (shown_props props xs) ys
shown_props-append props [] ys = refl
shown_props-append props (x ∷ xs) ys = shown_props-append (change props x.1) xs ys

-- ---- stages that rise

IsBelowStages-push : (j k : ℕ) (c : Changes) (xs : Pending) → j < k → IsBelowStages j xs → IsBelowStages j (xs ++ (k, c) ∷ [])
IsBelowStages-push j k c [] h b = (h, tt)
IsBelowStages-push j k c (x ∷ xs) h b = (b.0, IsBelowStages-push j k c xs h b.1)

pub StagesRise-push : (k : ℕ) (c : Changes) (xs : Pending) → StagesRise xs → All (λ p. p.0 < k) xs → StagesRise (xs ++ (k, c) ∷ [])
StagesRise-push k c [] r h = (tt, tt)
StagesRise-push k c (x ∷ xs) r h = (IsBelowStages-push x.0 k c xs (All-head (λ p. p.0 < k) x xs h) r.0, StagesRise-push k c xs r.1 (All-tail (λ p. p.0 < k) x xs h))

by_cond : {A : Type 0} (P : A → Type 0) (b : Bool) (x y : A) → P x → P y → P (cond b x y)
by_cond P true x y h k = h
by_cond P false x y h k = k

IsBelowStages-filter : (j k : ℕ) (xs : Pending) → IsBelowStages j xs → IsBelowStages j (without_stage k xs)
IsBelowStages-filter j k [] b = tt
IsBelowStages-filter j k (x ∷ xs) b =
    let P : Pending → Type 0 = λ ys. IsBelowStages j ys in
    by_cond P (not (nat_eq x.0 k)) (x ∷ without_stage k xs) (without_stage k xs) (b.0, IsBelowStages-filter j k xs b.1) (IsBelowStages-filter j k xs b.1)

pub StagesRise-filter : (k : ℕ) (xs : Pending) → StagesRise xs → StagesRise (without_stage k xs)
StagesRise-filter k [] r = tt
StagesRise-filter k (x ∷ xs) r =
    let P : Pending → Type 0 = λ ys. StagesRise ys in
    by_cond P (not (nat_eq x.0 k)) (x ∷ without_stage k xs) (without_stage k xs) (IsBelowStages-filter x.0 k xs r.0, StagesRise-filter k xs r.1) (StagesRise-filter k xs r.1)

-- ---- a stage that isn't there

pub acked_props-absent : (k : ℕ) (props : PropertyList) (xs : Pending) → IsBelowStages k xs → acked_props k props xs ≡ props
acked_props-absent k props [] b = refl
acked_props-absent k props (x ∷ xs) b = grind (arith, nat_tests, acked_props-absent k props xs b.1)

pub without_stage-absent : (k : ℕ) (xs : Pending) → IsBelowStages k xs → without_stage k xs ≡ xs
without_stage-absent k [] b = refl
without_stage-absent k (x ∷ xs) b = grind (arith, nat_tests, without_stage-absent k xs b.1)

IsBelowStages-trans : (j k : ℕ) (xs : Pending) → j < k → IsBelowStages k xs → IsBelowStages j xs
IsBelowStages-trans j k [] h b = tt
IsBelowStages-trans j k (x ∷ xs) h b = (omega arith, IsBelowStages-trans j k xs h b.1)

-- a stage that isn't above any of them, and isn't the first, is below all
pub below_first : (k : ℕ) (x : ℕ × Changes) (xs : Pending) → StagesRise xs → All (λ p. k ≤ p.0) xs → Some x ≡ slice_get xs 0
    → (x.0 ≡ k → ⊥) → IsBelowStages k xs
below_first k x [] r h e n = tt
below_first k x (y ∷ ys) r h e n =
    let first : x ≡ y = cc in
    let low : k ≤ y.0 = All-head (λ p. k ≤ p.0) y ys h in
    let less : k < y.0 = grind arith in
    (less, IsBelowStages-trans k y.0 ys less r.0)

-- ---- a stage that is the first

pub acked_props-first : (k : ℕ) (props : PropertyList) (x : ℕ × Changes) (xs : Pending) → StagesRise xs → Some x ≡ slice_get xs 0 → x.0 ≡ k
    → acked_props k props xs ≡ change props x.1
acked_props-first k props x [] r e h = absurd cc
acked_props-first k props x (y ∷ ys) r e h =
    let first : x ≡ y = cc in
    grind (arith, nat_tests, acked_props-absent y.0 (change props y.1) ys r.0)

pub without_stage-first : (k : ℕ) (x : ℕ × Changes) (xs : Pending) → StagesRise xs → Some x ≡ slice_get xs 0 → x.0 ≡ k → without_stage k xs ≡ drop 1 xs
without_stage-first k x [] r e h = absurd cc
without_stage-first k x (y ∷ ys) r e h =
    let first : x ≡ y = cc in
    grind (arith, nat_tests, without_stage-absent y.0 ys r.0)

-- ---- a stage that is taken out

abbrev is_other : ℕ → (ℕ × Changes) → Bool
is_other k p = not (nat_eq p.0 k)

-- the first of that stage is the only one, so taking it out leaves all others
without_stage-at : (k : ℕ) (xs : Pending) → StagesRise xs → without_stage k xs ≡ take (prefix_len (is_other k) xs) xs ++ drop (suc (prefix_len (is_other k) xs)) xs
without_stage-at k [] r = refl
without_stage-at k (x ∷ xs) r = step (nat_eq x.0 k) refl (without_stage-at k xs r.1)
  where
    step : (b : Bool) → nat_eq x.0 k ≡ b → without_stage k xs ≡ take (prefix_len (is_other k) xs) xs ++ drop (suc (prefix_len (is_other k) xs)) xs → without_stage k (x ∷ xs) ≡ take (prefix_len (is_other k) (x ∷ xs)) (x ∷ xs) ++ drop (suc (prefix_len (is_other k) (x ∷ xs))) (x ∷ xs)
    step true e others = rw e (ap (λ j. without_stage j xs) (sym (eqb→eq x.0 k (subst T (sym e) tt))) ∙ without_stage-absent x.0 xs r.0)
    step false e others = rw (e, one-add) (ap (λ ys. x ∷ ys) others)

pub without_stage-found : (k i : ℕ) (xs : Pending) → StagesRise xs → position (λ p. nat_eq p.0 k) xs ≡ Some i
    → without_stage k xs ≡ take i xs ++ drop (suc i) xs
without_stage-found k i xs r h = grind (arith, nat_tests, without_stage-at k xs r)

pub without_stage-missing : (k : ℕ) (xs : Pending) → StagesRise xs → position (λ p. nat_eq p.0 k) xs ≡ None → without_stage k xs ≡ xs
without_stage-missing k xs r h =
    let n = prefix_len (is_other k) xs in
    let past : length xs ≤ n = grind (arith, nat_tests) in
    let beyond : length xs ≤ suc n = omega arith in
    without_stage-at k xs r ∙ rw (take_all n xs past, drop_all (suc n) xs beyond) (append-nil xs)
