-- New elements that are put in part by part, the last part first, each at the same place: all are put in there; of any content.
use Rattle.std.proofs.Common.{◌≡◌, ℕ, zero, suc, ◌+◌, ◌≤◌, Bool, true, false, not, cond, nat_le, List, [], ◌∷◌, ◌++◌, Option, Some, None, refl, sym, ap, arith, append_assoc, append-nil, option_map}
use Rattle.std.specs.List.{list_all, prefix_len}
use Rattle.std.proofs.lemmas.Bool.Decides.{nat_tests}
use Rattle.ft_base.specs.Scan.{len, one_more_if, put, put_past}
use Rattle.ft_base.proofs.Booleans.{both}
use Rattle.ft_tree_leaves.specs.declared.references.Reference.{Reference}
use Rattle.ft_tree_leaves.specs.Edits.{with_place}
use Rattle.ft_tree_leaves.specs.Places.{put_place, shifted_place}
use Rattle.ft_laws_agreement.proofs.Booleans.{hidden}
use Rattle.ft_named.proofs.Moves.{put_passes, put_place-same}

module _ {A : Type 0} (see past : A → Bool) where
  -- none of them is gone past
  abbrev pub AreStops : List A → Type 0
  AreStops xs = list_all (λ x. not (past x)) xs ≡ true

  past-twice : (a b xs : List A) → AreStops b → put_past past a (put_past past b xs) ≡ put_past past (a ++ b) xs
  past-twice a [] [] h = sym (append-nil a)
  past-twice a (y ∷ b) [] h = rw (hidden (past y) (both (not (past y)) (list_all (λ x. not (past x)) b) h).0) refl
  past-twice a b (x ∷ xs) h = step (past x) refl (past-twice a b xs h)
    where
      here : (c : List A) → AreStops c → past x ≡ false → put_past past a (c ++ (x ∷ xs)) ≡ (a ++ c) ++ (x ∷ xs)
      here [] g e = rw e (ap (λ zs. zs ++ (x ∷ xs)) (sym (append-nil a)))
      here (y ∷ c) g e = rw (hidden (past y) (both (not (past y)) (list_all (λ z. not (past z)) c) g).0) (sym (append_assoc a (y ∷ c) (x ∷ xs)))

      step : (d : Bool) → past x ≡ d → put_past past a (put_past past b xs) ≡ put_past past (a ++ b) xs
          → put_past past a (cond d (x ∷ put_past past b xs) (b ++ (x ∷ xs))) ≡ cond d (x ∷ put_past past (a ++ b) xs) ((a ++ b) ++ (x ∷ xs))
      step true e rest = rw e (ap (λ zs. x ∷ zs) rest)
      step false e rest = here b h e

  pub put-twice : (p : ℕ) (a b xs : List A) → AreStops b → p ≤ len see xs → put see past p a (put see past p b xs) ≡ put see past p (a ++ b) xs
  put-twice zero a b xs h l = past-twice a b xs h
  put-twice (suc p) a b [] h l = absurd (omega arith)
  put-twice (suc p) a b (x ∷ xs) h l = ap (λ zs. x ∷ zs) (put-twice (cond (see x) p (suc p)) a b xs h (fewer (see x) (len see xs) l))
    where
      fewer : (d : Bool) (n : ℕ) → suc p ≤ one_more_if d n → cond d p (suc p) ≤ n
      fewer true n g = omega arith
      fewer false n g = g

  prefix-stays : (b xs : List A) → AreStops b → prefix_len past (put_past past b xs) ≡ prefix_len past xs
  prefix-stays [] [] h = refl
  prefix-stays (y ∷ b) [] h = rw (hidden (past y) (both (not (past y)) (list_all (λ x. not (past x)) b) h).0) refl
  prefix-stays b (x ∷ xs) h = step (past x) refl (prefix-stays b xs h)
    where
      here : (c : List A) → AreStops c → past x ≡ false → prefix_len past (c ++ (x ∷ xs)) ≡ 0
      here [] g e = rw e refl
      here (y ∷ c) g e = rw (hidden (past y) (both (not (past y)) (list_all (λ z. not (past z)) c) g).0) refl

      step : (d : Bool) → past x ≡ d → prefix_len past (put_past past b xs) ≡ prefix_len past xs
          → prefix_len past (cond d (x ∷ put_past past b xs) (b ++ (x ∷ xs))) ≡ cond d (1 + prefix_len past xs) 0
      step true e rest = rw e (ap (λ n. 1 + n) rest)
      step false e rest = here b h e

  at-stays : (p : ℕ) (b xs : List A) → AreStops b → p ≤ len see xs → put_passes see past p (put see past p b xs) ≡ put_passes see past p xs
  at-stays zero b xs h l = prefix-stays b xs h
  at-stays (suc p) b [] h l = absurd (omega arith)
  at-stays (suc p) b (x ∷ xs) h l = ap suc (at-stays (cond (see x) p (suc p)) b xs h (fewer (see x) (len see xs) l))
    where
      fewer : (d : Bool) (n : ℕ) → suc p ≤ one_more_if d n → cond d p (suc p) ≤ n
      fewer true n g = omega arith
      fewer false n g = g

  pub place-stays : (p : ℕ) (b xs : List A) → AreStops b → p ≤ len see xs → put_place see past p (put see past p b xs) ≡ put_place see past p xs
  place-stays p b xs h l = put_place-same see past see past p (put see past p b xs) xs (at-stays p b xs h l)

  past-nothing : (xs : List A) → put_past past [] xs ≡ xs
  past-nothing [] = refl
  past-nothing (x ∷ xs) = step (past x) (past-nothing xs)
    where
      step : (d : Bool) → put_past past [] xs ≡ xs → cond d (x ∷ put_past past [] xs) (x ∷ xs) ≡ x ∷ xs
      step true h = ap (λ zs. x ∷ zs) h
      step false h = refl

  pub put-nothing : (p : ℕ) (xs : List A) → put see past p [] xs ≡ xs
  put-nothing zero xs = past-nothing xs
  put-nothing (suc p) [] = refl
  put-nothing (suc p) (x ∷ xs) = ap (λ zs. x ∷ zs) (put-nothing (cond (see x) p (suc p)) xs)

-- ---- references

shift-twice : (i a b j : ℕ) → shifted_place i a (shifted_place i b j) ≡ shifted_place i (a + b) j
shift-twice i a b j = step (nat_le i j) refl
  where
    step : (d : Bool) → nat_le i j ≡ d → shifted_place i a (cond d (j + b) j) ≡ cond d (j + (a + b)) j
    step true h = let behind : nat_le i (j + b) ≡ true = grind (arith, nat_tests) in rw behind (omega arith)
    step false h = rw h refl

pub moved-twice : (i a b : ℕ) (o : Option Reference) → option_map (with_place (shifted_place i a)) (option_map (with_place (shifted_place i b)) o)
    ≡ option_map (with_place (shifted_place i (a + b))) o
moved-twice i a b None = refl
moved-twice i a b (Some x) = step x.place
  where
    step : (o : Option ℕ) → Some (with_place (shifted_place i a) (with_place (shifted_place i b) (record { place = o; acked = x.acked })))
        ≡ Some (with_place (shifted_place i (a + b)) (record { place = o; acked = x.acked }))
    step None = refl
    step (Some j) = ap (λ k. Some (reference k)) (shift-twice i a b j)
      where
        reference : ℕ → Reference
        reference k = record { place = Some k; acked = x.acked }

shift-none : (i j : ℕ) → shifted_place i 0 j ≡ j
shift-none i j = step (nat_le i j)
  where
    step : (d : Bool) → cond d (j + 0) j ≡ j
    step true = omega arith
    step false = refl

pub moved-nowhere : (i : ℕ) (o : Option Reference) → o ≡ option_map (with_place (shifted_place i 0)) o
moved-nowhere i None = refl
moved-nowhere i (Some x) = step x.place
  where
    moved : Option ℕ → Reference
    moved o = record { place = o; acked = x.acked }

    step : (o : Option ℕ) → Some (record { place = o; acked = x.acked }) ≡ Some (with_place (shifted_place i 0) (record { place = o; acked = x.acked }))
    step None = refl
    step (Some j) = ap (λ k. Some (moved (Some k))) (sym (shift-none i j))
