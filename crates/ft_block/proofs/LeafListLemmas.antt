-- What callers see of the leaves of a tree: from nodes to nodes with their values.
use Rattle.std.proofs.Common.{◌≡◌, ◌≢◌, ℕ, ◌+◌, ◌-◌, ◌≤◌, List, [], ◌∷◌, length, Option, Some, None, IsSomeAnd, Bool, true, false, refl, sym, ap, subst, ◌∙◌, inl, inr}
use Rattle.std.proofs.Common.{arith, cond, leb, eqb}
use Rattle.std.proofs.lemmas.Bool.{cases_eq, cond-true, cond-false, eq-eqb, ne_eqb}
use Rattle.ft_arena.specs.Ids.{same, times, insert_after, put_after, without, first, after}
use Rattle.ft_arena.specs.Forest.{Forest, entry, leaf_value}
use Rattle.ft_arena.proofs.IdLemmas.{same_refl, same_other}
use Rattle.ft_arena.proofs.RingLemmas.{insert_after_later, without_here, without_later}
use Rattle.ft_shape.specs.declared.headed.Headed.{Headed}
use Rattle.ft_block.specs.declared.summaries.Summary.{Summary}
use Rattle.ft_block.specs.declared.blocks.Found.{Found}
use Rattle.ft_block.specs.Leaves.{ids, times_leaf, value_at, length_by, place_from, left_of, put_leaf_after, put_leaf, change_leaf, split_leaf, without_leaf, first_value}
use Rattle.ft_block.specs.Leaves.{value_after, join_first, join_leaf}
use Rattle.ft_block.specs.Inside.{pair_of, pairs_of}
use Rattle.ft_shape.specs.Tree.{Measure, length_of, total, seek, numbers_before}
use Rattle.ft_shape.proofs.EditLemmas.{some_of, insert_after_head}
use Rattle.ft_shape.proofs.FitLemmas.{AllLeaves, leaf_length}
use Rattle.ft_block.proofs.PositionLemmas.{before_here, before_later}

-- a place found among the nodes, as callers see it
pub to_found : Option (ℕ × ℕ) → Option Found
to_found None = None
to_found (Some f) = Some record { leaf = Some f.0; offset = f.1 }

pub to_found_some : (x q : ℕ) → to_found (Some (x, q)) ≡ Some record { leaf = Some x; offset = q }
unfolding to_found
to_found_some x q = refl

to_found_none : to_found None ≡ None
unfolding to_found
to_found_none = refl

after_later : (y : ℕ) (xs : List ℕ) (x : ℕ) → y ≢ x → after (y ∷ xs) x ≡ after xs x
after_later y xs x d = cond-false (eqb y x) _ _ (ne_eqb y x d)

abbrev found_at : ℕ → ℕ → Option Found
found_at x p = Some record { leaf = Some x; offset = p }

push : (x p : ℕ) (b : Bool) (o : Option (ℕ × ℕ)) → cond b (found_at x p) (to_found o) ≡ to_found (cond b (Some (x, p)) o)
push x p true o = sym (to_found_some x p)
push x p false o = refl

module _ {L : Type 0} where
  head_value : (s : Forest L (Headed Summary)) (x : ℕ) (xs : List ℕ) → AllLeaves s (x ∷ xs) → (v : L) × (leaf_value s x ≡ Some v)
  head_value s x xs a = some_of (leaf_value s x) (a x (omega (arith, same_refl x)))

  pairs_cons : (s : Forest L (Headed Summary)) (x : ℕ) (xs : List ℕ) (v : L) → leaf_value s x ≡ Some v → pairs_of s (x ∷ xs) ≡ (x, v) ∷ pairs_of s xs
  pairs_cons s x xs v e = ap (λ o. pair_of x o (pairs_of s xs)) e

  pub length-pairs : (s : Forest L (Headed Summary)) (xs : List ℕ) → AllLeaves s xs → length (pairs_of s xs) ≡ length xs
  length-pairs s [] a = refl
  length-pairs s (x ∷ xs) a =
      let v = head_value s x xs a in
      omega (arith, ap length (pairs_cons s x xs v.0 v.1), length-pairs s xs (λ y m. a y (omega arith)))

  pub ids-pairs : (s : Forest L (Headed Summary)) (xs : List ℕ) → AllLeaves s xs → ids (pairs_of s xs) ≡ xs
  ids-pairs s [] a = refl
  ids-pairs s (x ∷ xs) a =
      let v = head_value s x xs a in
      ap ids (pairs_cons s x xs v.0 v.1) ∙ ap (λ (ys : List ℕ). x ∷ ys) (ids-pairs s xs (λ y m. a y (omega arith)))

  pub length_by-pairs : (measure : Measure L Summary) (s : Forest L (Headed Summary)) (xs : List ℕ) → AllLeaves s xs
      → length_by measure.leaf (pairs_of s xs) ≡ total (length_of measure s) xs
  length_by-pairs measure s [] a = refl
  length_by-pairs measure s (x ∷ xs) a =
      let v = head_value s x xs a in
      omega (arith, ap (length_by measure.leaf) (pairs_cons s x xs v.0 v.1), leaf_length measure (entry s x) v.0 v.1, length_by-pairs measure s xs (λ y m. a y (omega arith)))

  pub place_from-pairs : (measure : Measure L Summary) (s : Forest L (Headed Summary)) (xs : List ℕ) (p : ℕ) → AllLeaves s xs
      → place_from measure.leaf (pairs_of s xs) p ≡ to_found (seek (length_of measure s) xs p)
  place_from-pairs measure s [] p a = sym to_found_none
  place_from-pairs measure s (x ∷ xs) p a =
      let v = head_value s x xs a in
      let l : length_of measure s x ≡ measure.leaf v.0 = leaf_length measure (entry s x) v.0 v.1 in
      ap (λ zs. place_from measure.leaf zs p) (pairs_cons s x xs v.0 v.1)
      ∙ ap (λ (n : ℕ). cond (leb p n) (found_at x p) (place_from measure.leaf (pairs_of s xs) (p - n))) (sym l)
      ∙ ap (λ (o : Option Found). cond (leb p (length_of measure s x)) (found_at x p) o)
      (place_from-pairs measure s xs (p - length_of measure s x) (λ y m. a y (omega arith)))
      ∙ push x p (leb p (length_of measure s x)) (seek (length_of measure s) xs (p - length_of measure s x))

  pub times-pairs : (s : Forest L (Headed Summary)) (xs : List ℕ) (x : ℕ) → AllLeaves s xs → times_leaf (pairs_of s xs) x ≡ times xs x
  times-pairs s [] x a = refl
  times-pairs s (y ∷ ys) x a =
      let v = head_value s y ys a in
      ap (λ zs. times_leaf zs x) (pairs_cons s y ys v.0 v.1) ∙ ap (λ (n : ℕ). same y x + n) (times-pairs s ys x (λ z m. a z (omega arith)))

  value_here : (x : ℕ) (v : L) (ps : List (ℕ × L)) → value_at ((x, v) ∷ ps) x ≡ Some v
  value_here x v ps = cond-true (eqb x x) _ _ (eq-eqb x x refl)

  value_later : (y : ℕ) (v : L) (ps : List (ℕ × L)) (x : ℕ) → y ≢ x → value_at ((y, v) ∷ ps) x ≡ value_at ps x
  value_later y v ps x d = cond-false (eqb y x) _ _ (ne_eqb y x d)

  pub value_at-pairs : (s : Forest L (Headed Summary)) (xs : List ℕ) (x : ℕ) → AllLeaves s xs → 1 ≤ times xs x → value_at (pairs_of s xs) x ≡ leaf_value s x
  value_at-pairs s [] x a m = absurd (omega arith)
  value_at-pairs s (y ∷ ys) x a m =
      let v = head_value s y ys a in
      ap (λ zs. value_at zs x) (pairs_cons s y ys v.0 v.1) ∙ elim (cases_eq y x) [
        | inl e ↦ subst (λ (z : ℕ). value_at ((y, v.0) ∷ pairs_of s ys) z ≡ leaf_value s z) e (value_here y v.0 (pairs_of s ys) ∙ sym v.1)
        | inr d ↦ value_later y v.0 (pairs_of s ys) x d ∙ value_at-pairs s ys x (λ z n. a z (omega arith)) (omega (arith, same_other y x d))
      ]

  -- a value is found only at a leaf that stands there
  pub value_at_in : (ps : List (ℕ × L)) (x : ℕ) (P : L → Type 0) → IsSomeAnd (value_at ps x) P → 1 ≤ times_leaf ps x
  value_at_in [] x P h = absurd h
  value_at_in (p ∷ ps) x P h = elim (cases_eq p.0 x) [
    | inl e ↦ omega (arith, same_refl x, ap (λ z. same z x) e)
    | inr d ↦ omega (arith, value_at_in ps x P (subst (λ (o : Option L). IsSomeAnd o P) (value_later p.0 p.1 ps x d) h))
  ]

  left_here : (x : ℕ) (v : L) (ps : List (ℕ × L)) → left_of ((x, v) ∷ ps) x ≡ []
  left_here x v ps = cond-true (eqb x x) _ _ (eq-eqb x x refl)

  left_later : (y : ℕ) (v : L) (ps : List (ℕ × L)) (x : ℕ) → y ≢ x → left_of ((y, v) ∷ ps) x ≡ (y, v) ∷ left_of ps x
  left_later y v ps x d = cond-false (eqb y x) _ _ (ne_eqb y x d)

  pub left_of-pairs : (s : Forest L (Headed Summary)) (xs : List ℕ) (x : ℕ) → AllLeaves s xs → left_of (pairs_of s xs) x ≡ pairs_of s (numbers_before xs x)
  left_of-pairs s [] x a = refl
  left_of-pairs s (y ∷ ys) x a =
      let v = head_value s y ys a in
      ap (λ zs. left_of zs x) (pairs_cons s y ys v.0 v.1) ∙ elim (cases_eq y x) [
        | inl e ↦ subst (λ (z : ℕ). left_of ((y, v.0) ∷ pairs_of s ys) z ≡ pairs_of s (numbers_before (y ∷ ys) z)) e (left_here y v.0 (pairs_of s ys)
            ∙ sym (ap (pairs_of s) (before_here y ys)))
        | inr d ↦ left_later y v.0 (pairs_of s ys) x d ∙ ap (λ (zs : List (ℕ × L)). (y, v.0) ∷ zs) (left_of-pairs s ys x (λ z m. a z (omega arith)))
            ∙ sym (pairs_cons s y (numbers_before ys x) v.0 v.1) ∙ sym (ap (pairs_of s) (before_later y ys x d))
      ]

  put_leaf_here : (v : L) (ps : List (ℕ × L)) (at : ℕ) (new : ℕ × L) → put_leaf_after ((at, v) ∷ ps) at new ≡ (at, v) ∷ new ∷ put_leaf_after ps at new
  put_leaf_here v ps at new = cond-true (eqb at at) _ _ (eq-eqb at at refl)

  put_leaf_later : (y : ℕ) (v : L) (ps : List (ℕ × L)) (at : ℕ) (new : ℕ × L) → (y ≡ at → ⊥)
      → put_leaf_after ((y, v) ∷ ps) at new ≡ (y, v) ∷ put_leaf_after ps at new
  put_leaf_later y v ps at new d = cond-false (eqb y at) _ _ (ne_eqb y at d)

  -- a leaf put among the nodes is put among the leaves
  pub pairs-insert : (s s' : Forest L (Headed Summary)) (xs : List ℕ) (at id : ℕ) (leaf : L) → AllLeaves s xs
      → ((x : ℕ) → 1 ≤ times xs x → leaf_value s' x ≡ leaf_value s x)
      → leaf_value s' id ≡ Some leaf → pairs_of s' (insert_after xs at id) ≡ put_leaf_after (pairs_of s xs) at (id, leaf)
  pairs-insert s s' [] at id leaf a h e = refl
  pairs-insert s s' (y ∷ ys) at id leaf a h e =
      let v = head_value s y ys a in
      let v' : leaf_value s' y ≡ Some v.0 = h y (omega (arith, same_refl y)) ∙ v.1 in
      let rest = pairs-insert s s' ys at id leaf (λ x m. a x (omega arith)) (λ x m. h x (omega arith)) e in
      let old : pairs_of s (y ∷ ys) ≡ (y, v.0) ∷ pairs_of s ys = pairs_cons s y ys v.0 v.1 in
      elim (cases_eq y at) [
        | inl c ↦
            let here : insert_after (y ∷ ys) at id ≡ y ∷ id ∷ insert_after ys at id =
            subst (λ (z : ℕ). insert_after (z ∷ ys) at id ≡ z ∷ id ∷ insert_after ys at id) (sym c) (insert_after_head ys at id) in
            let put : put_leaf_after ((y, v.0) ∷ pairs_of s ys) at (id, leaf) ≡ (y, v.0) ∷ (id, leaf) ∷ put_leaf_after (pairs_of s ys) at (id, leaf) =
            subst (λ (z : ℕ). put_leaf_after ((z, v.0) ∷ pairs_of s ys) at (id, leaf) ≡ (z, v.0) ∷ (id, leaf) ∷ put_leaf_after (pairs_of s ys) at (id, leaf))
            (sym c) (put_leaf_here v.0 (pairs_of s ys) at (id, leaf)) in
            ap (pairs_of s') here ∙ pairs_cons s' y (id ∷ insert_after ys at id) v.0 v'
            ∙ ap (λ (zs : List (ℕ × L)). (y, v.0) ∷ zs) (pairs_cons s' id (insert_after ys at id) leaf e)
            ∙ ap (λ (zs : List (ℕ × L)). (y, v.0) ∷ (id, leaf) ∷ zs) rest ∙ sym (ap (λ (zs : List (ℕ × L)). put_leaf_after zs at (id, leaf)) old ∙ put)
        | inr d ↦ ap (pairs_of s') (insert_after_later y ys at id d) ∙ pairs_cons s' y (insert_after ys at id) v.0 v' ∙ ap (λ (zs : List (ℕ × L)). (y, v.0) ∷ zs) rest
            ∙ sym (ap (λ (zs : List (ℕ × L)). put_leaf_after zs at (id, leaf)) old ∙ put_leaf_later y v.0 (pairs_of s ys) at (id, leaf) d)
      ]

  pairs_same : (s s' : Forest L (Headed Summary)) (xs : List ℕ) → ((x : ℕ) → 1 ≤ times xs x → leaf_value s' x ≡ leaf_value s x) → pairs_of s' xs ≡ pairs_of s xs
  pairs_same s s' [] h = refl
  pairs_same s s' (y ∷ ys) h = ap (λ o. pair_of y o (pairs_of s' ys)) (h y (omega (arith, same_refl y)))
      ∙ ap (pair_of y (leaf_value s y)) (pairs_same s s' ys (λ x m. h x (omega arith)))

  -- the same at any place
  pub pairs-put : (s s' : Forest L (Headed Summary)) (xs : List ℕ) (at : Option ℕ) (id : ℕ) (leaf : L) → AllLeaves s xs
      → ((x : ℕ) → 1 ≤ times xs x → leaf_value s' x ≡ leaf_value s x) → leaf_value s' id ≡ Some leaf
      → pairs_of s' (put_after xs at id) ≡ put_leaf (pairs_of s xs) at (id, leaf)
  pairs-put s s' xs None id leaf a h e = pairs_cons s' id xs leaf e ∙ ap (λ (zs : List (ℕ × L)). (id, leaf) ∷ zs) (pairs_same s s' xs h)
  pairs-put s s' xs (Some at) id leaf a h e = pairs-insert s s' xs at id leaf a h e

  change_here : (f : L → L) (v : L) (ps : List (ℕ × L)) (at : ℕ) → change_leaf f ((at, v) ∷ ps) at ≡ (at, f v) ∷ change_leaf f ps at
  change_here f v ps at = cond-true (eqb at at) _ _ (eq-eqb at at refl)

  change_later : (f : L → L) (y : ℕ) (v : L) (ps : List (ℕ × L)) (at : ℕ) → y ≢ at → change_leaf f ((y, v) ∷ ps) at ≡ (y, v) ∷ change_leaf f ps at
  change_later f y v ps at d = cond-false (eqb y at) _ _ (ne_eqb y at d)

  -- a changed leaf is changed among the leaves
  pub pairs-change : (f : L → L) (s s' : Forest L (Headed Summary)) (xs : List ℕ) (at : ℕ) (was : L) → AllLeaves s xs → leaf_value s at ≡ Some was
      → leaf_value s' at ≡ Some (f was) → ((x : ℕ) → x ≢ at → leaf_value s' x ≡ leaf_value s x) → pairs_of s' xs ≡ change_leaf f (pairs_of s xs) at
  pairs-change f s s' [] at was a o n h = refl
  pairs-change f s s' (y ∷ ys) at was a o n h =
      let v = head_value s y ys a in
      let rest = pairs-change f s s' ys at was (λ x m. a x (omega arith)) o n h in
      elim (cases_eq y at) [
        | inl c ↦
            let now : leaf_value s' y ≡ Some (f was) = ap (leaf_value s') c ∙ n in
            let old : pairs_of s (y ∷ ys) ≡ (y, was) ∷ pairs_of s ys = pairs_cons s y ys was (ap (leaf_value s) c ∙ o) in
            let change : change_leaf f ((y, was) ∷ pairs_of s ys) at ≡ (y, f was) ∷ change_leaf f (pairs_of s ys) at =
            subst (λ (z : ℕ). change_leaf f ((z, was) ∷ pairs_of s ys) at ≡ (z, f was) ∷ change_leaf f (pairs_of s ys) at) (sym c)
            (change_here f was (pairs_of s ys) at) in
            pairs_cons s' y ys (f was) now ∙ ap (λ (zs : List (ℕ × L)). (y, f was) ∷ zs) rest ∙ sym (ap (λ zs. change_leaf f zs at) old ∙ change)
        | inr d ↦
            pairs_cons s' y ys v.0 (h y d ∙ v.1) ∙ ap (λ (zs : List (ℕ × L)). (y, v.0) ∷ zs) rest
            ∙ sym (ap (λ zs. change_leaf f zs at) (pairs_cons s y ys v.0 v.1) ∙ change_later f y v.0 (pairs_of s ys) at d)
      ]

  split_here : (front rear : L → L) (v : L) (ps : List (ℕ × L)) (at new : ℕ)
      → split_leaf front rear ((at, v) ∷ ps) at new ≡ (at, front v) ∷ (new, rear v) ∷ split_leaf front rear ps at new
  split_here front rear v ps at new = cond-true (eqb at at) _ _ (eq-eqb at at refl)

  split_later : (front rear : L → L) (y : ℕ) (v : L) (ps : List (ℕ × L)) (at new : ℕ) → y ≢ at
      → split_leaf front rear ((y, v) ∷ ps) at new ≡ (y, v) ∷ split_leaf front rear ps at new
  split_later front rear y v ps at new d = cond-false (eqb y at) _ _ (ne_eqb y at d)

  -- a leaf that is cut in two is cut among the leaves
  pub pairs-split : (front rear : L → L) (s s' : Forest L (Headed Summary)) (xs : List ℕ) (at new : ℕ) (was : L) → AllLeaves s xs → leaf_value s at ≡ Some was
      → leaf_value s' at ≡ Some (front was) → leaf_value s' new ≡ Some (rear was) → ((x : ℕ) → 1 ≤ times xs x → x ≢ at → leaf_value s' x ≡ leaf_value s x)
      → pairs_of s' (insert_after xs at new) ≡ split_leaf front rear (pairs_of s xs) at new
  pairs-split front rear s s' [] at new was a o n r h = refl
  pairs-split front rear s s' (y ∷ ys) at new was a o n r h =
      let v = head_value s y ys a in
      let rest = pairs-split front rear s s' ys at new was (λ x m. a x (omega arith)) o n r (λ x m d. h x (omega arith) d) in
      elim (cases_eq y at) [
        | inl c ↦
            let here : insert_after (y ∷ ys) at new ≡ y ∷ new ∷ insert_after ys at new =
            subst (λ (z : ℕ). insert_after (z ∷ ys) at new ≡ z ∷ new ∷ insert_after ys at new) (sym c) (insert_after_head ys at new) in
            let now : leaf_value s' y ≡ Some (front was) = ap (leaf_value s') c ∙ n in
            let old : pairs_of s (y ∷ ys) ≡ (y, was) ∷ pairs_of s ys = pairs_cons s y ys was (ap (leaf_value s) c ∙ o) in
            let split : split_leaf front rear ((y, was) ∷ pairs_of s ys) at new ≡ (y, front was) ∷ (new, rear was) ∷ split_leaf front rear (pairs_of s ys) at new =
            subst (λ (z : ℕ). split_leaf front rear ((z, was) ∷ pairs_of s ys) at new ≡ (z, front was) ∷ (new, rear was) ∷ split_leaf front rear (pairs_of s ys)
            at new) (sym c) (split_here front rear was (pairs_of s ys) at new) in
            ap (pairs_of s') here ∙ pairs_cons s' y (new ∷ insert_after ys at new) (front was) now
            ∙ ap (λ (zs : List (ℕ × L)). (y, front was) ∷ zs) (pairs_cons s' new (insert_after ys at new) (rear was) r)
            ∙ ap (λ (zs : List (ℕ × L)). (y, front was) ∷ (new, rear was) ∷ zs) rest ∙ sym (ap (λ zs. split_leaf front rear zs at new) old ∙ split)
        | inr d ↦
            ap (pairs_of s') (insert_after_later y ys at new d) ∙ pairs_cons s' y (insert_after ys at new) v.0 (h y (omega (arith, same_refl y)) d ∙ v.1)
            ∙ ap (λ (zs : List (ℕ × L)). (y, v.0) ∷ zs) rest
            ∙ sym (ap (λ zs. split_leaf front rear zs at new) (pairs_cons s y ys v.0 v.1) ∙ split_later front rear y v.0 (pairs_of s ys) at new d)
      ]

  without_leaf_here : (x : ℕ) (v : L) (ps : List (ℕ × L)) → without_leaf ((x, v) ∷ ps) x ≡ without_leaf ps x
  without_leaf_here x v ps = cond-true (eqb x x) _ _ (eq-eqb x x refl)

  without_leaf_later : (y : ℕ) (v : L) (ps : List (ℕ × L)) (x : ℕ) → y ≢ x → without_leaf ((y, v) ∷ ps) x ≡ (y, v) ∷ without_leaf ps x
  without_leaf_later y v ps x d = cond-false (eqb y x) _ _ (ne_eqb y x d)

  -- a leaf that is taken out of the list is taken out of the leaves
  pub pairs-without : (s s' : Forest L (Headed Summary)) (xs : List ℕ) (x : ℕ) → AllLeaves s xs
      → ((z : ℕ) → 1 ≤ times xs z → z ≢ x → leaf_value s' z ≡ leaf_value s z)
      → pairs_of s' (without xs x) ≡ without_leaf (pairs_of s xs) x
  pairs-without s s' [] x a h = refl
  pairs-without s s' (y ∷ ys) x a h =
      let v = head_value s y ys a in
      let rest = pairs-without s s' ys x (λ z m. a z (omega arith)) (λ z m d. h z (omega arith) d) in
      let old : pairs_of s (y ∷ ys) ≡ (y, v.0) ∷ pairs_of s ys = pairs_cons s y ys v.0 v.1 in
      elim (cases_eq y x) [
        | inl e ↦ ap (pairs_of s') (subst (λ (z : ℕ). without (y ∷ ys) z ≡ without ys z) e (without_here ys y)) ∙ rest
            ∙ sym (ap (λ zs. without_leaf zs x) old ∙ subst (λ (z : ℕ). without_leaf ((y, v.0) ∷ pairs_of s ys) z ≡ without_leaf (pairs_of s ys) z) e
            (without_leaf_here y v.0 (pairs_of s ys)))
        | inr d ↦ ap (pairs_of s') (without_later y ys x d) ∙ pairs_cons s' y (without ys x) v.0 (h y (omega (arith, same_refl y)) d ∙ v.1)
            ∙ ap (λ (zs : List (ℕ × L)). (y, v.0) ∷ zs) rest ∙ sym (ap (λ zs. without_leaf zs x) old ∙ without_leaf_later y v.0 (pairs_of s ys) x d)
      ]

  without_leaf_none : (ps : List (ℕ × L)) (x : ℕ) → times_leaf ps x ≡ 0 → without_leaf ps x ≡ ps
  without_leaf_none [] x h = refl
  without_leaf_none (p ∷ ps) x h =
      let d : p.0 ≢ x = (λ e. omega (arith, h, ap (λ z. same z x) e, same_refl x)) in
      without_leaf_later p.0 p.1 ps x d ∙ ap (λ (zs : List (ℕ × L)). p ∷ zs) (without_leaf_none ps x (omega arith))

  change_none : (f : L → L) (ps : List (ℕ × L)) (x : ℕ) → times_leaf ps x ≡ 0 → change_leaf f ps x ≡ ps
  change_none f [] x h = refl
  change_none f (p ∷ ps) x h =
      let d : p.0 ≢ x = (λ e. omega (arith, h, ap (λ z. same z x) e, same_refl x)) in
      change_later f p.0 p.1 ps x d ∙ ap (λ (zs : List (ℕ × L)). p ∷ zs) (change_none f ps x (omega arith))

  first_is_in : (ps : List (ℕ × L)) (n : ℕ) → first (ids ps) ≡ Some n → 1 ≤ times_leaf ps n
  first_is_in [] n e = cc e
  first_is_in (p ∷ ps) n e = let q : p.0 ≡ n = cc e in omega (arith, ap (λ z. same z n) q, same_refl n)

  -- what is after another stands there
  pub after_is_in : (ps : List (ℕ × L)) (x n : ℕ) → after (ids ps) x ≡ Some n → 1 ≤ times_leaf ps n
  after_is_in [] x n e = cc e
  after_is_in (p ∷ ps) x n e = elim (cases_eq p.0 x) [
    | inl q ↦ omega (arith, first_is_in ps n (sym (cond-true (eqb p.0 x) (first (ids ps)) (after (ids ps) x) (eq-eqb p.0 x q)) ∙ e))
    | inr d ↦ omega (arith, after_is_in ps x n (sym (after_later p.0 (ids ps) x d) ∙ e))
  ]

  value_after_later : (y : ℕ) (v : L) (ps : List (ℕ × L)) (x : ℕ) → y ≢ x → value_after ((y, v) ∷ ps) x ≡ value_after ps x
  value_after_later y v ps x d = cond-false (eqb y x) _ _ (ne_eqb y x d)

  -- the value after a leaf is that of the node after it
  pub value_after_is : (ps : List (ℕ × L)) (x n : ℕ) → ((z : ℕ) → times_leaf ps z ≤ 1) → after (ids ps) x ≡ Some n → value_at ps n ≡ value_after ps x
  value_after_is [] x n o e = cc e
  value_after_is (p ∷ []) x n o e = elim (cases_eq p.0 x) [
    | inl q ↦ let a : None ≡ Some n = sym (cond-true (eqb p.0 x) (first []) (after [] x) (eq-eqb p.0 x q)) ∙ e in cc a
    | inr d ↦ let a : None ≡ Some n = sym (after_later p.0 [] x d) ∙ e in cc a
  ]
  value_after_is (p ∷ r ∷ ps) x n o e = elim (cases_eq p.0 x) [
    | inl q ↦
        let h : Some r.0 ≡ Some n = sym (cond-true (eqb p.0 x) (first (ids (r ∷ ps))) (after (ids (r ∷ ps)) x) (eq-eqb p.0 x q)) ∙ e in
        let b : r.0 ≡ n = cc h in
        let d : p.0 ≢ n = (λ c. omega (arith, o n, ap (λ w. same w n) c, ap (λ w. same w n) b, same_refl n)) in
        value_later p.0 p.1 (r ∷ ps) n d ∙ subst (λ (z : ℕ). value_at (r ∷ ps) z ≡ Some r.1) b (value_here r.0 r.1 ps)
        ∙ sym (cond-true (eqb p.0 x) (first_value (r ∷ ps)) (value_after (r ∷ ps) x) (eq-eqb p.0 x q))
    | inr k ↦
        let later : after (ids (r ∷ ps)) x ≡ Some n = sym (after_later p.0 (ids (r ∷ ps)) x k) ∙ e in
        let d : p.0 ≢ n = (λ c. omega (arith, o n, ap (λ w. same w n) c, same_refl n, after_is_in (r ∷ ps) x n later)) in
        value_later p.0 p.1 (r ∷ ps) n d ∙ value_after_is (r ∷ ps) x n (λ z. omega (arith, o z)) later ∙ sym (value_after_later p.0 p.1 (r ∷ ps) x k)
  ]

  -- a leaf joined with the next one, which is taken out
  pub join_from : (f : L → L → L) (ps : List (ℕ × L)) (x n : ℕ) (w : L) → ((z : ℕ) → times_leaf ps z ≤ 1) → after (ids ps) x ≡ Some n
      → value_after ps x ≡ Some w
      → change_leaf (λ v. f v w) (without_leaf ps n) x ≡ join_leaf f ps x
  join_from f [] x n w o e h = cc e
  join_from f (p ∷ []) x n w o e h = elim (cases_eq p.0 x) [
    | inl q ↦ let a : None ≡ Some n = sym (cond-true (eqb p.0 x) (first []) (after [] x) (eq-eqb p.0 x q)) ∙ e in cc a
    | inr d ↦ let a : None ≡ Some n = sym (after_later p.0 [] x d) ∙ e in cc a
  ]
  join_from f (p ∷ r ∷ ps) x n w o e h = elim (cases_eq p.0 x) [
    | inl q ↦
        let t = eq-eqb p.0 x q in
        let h1 : Some r.0 ≡ Some n = sym (cond-true (eqb p.0 x) (first (ids (r ∷ ps))) (after (ids (r ∷ ps)) x) t) ∙ e in
        let b : r.0 ≡ n = cc h1 in
        let h2 : Some r.1 ≡ Some w = sym (cond-true (eqb p.0 x) (first_value (r ∷ ps)) (value_after (r ∷ ps) x) t) ∙ h in
        let c : r.1 ≡ w = cc h2 in
        let d : p.0 ≢ n = (λ z. omega (arith, o n, ap (λ w. same w n) z, ap (λ w. same w n) b, same_refl n)) in
        let out : without_leaf (p ∷ r ∷ ps) n ≡ p ∷ ps =
        without_leaf_later p.0 p.1 (r ∷ ps) n d ∙ ap (λ (zs : List (ℕ × L)). p ∷ zs)
        (subst (λ (z : ℕ). without_leaf (r ∷ ps) z ≡ without_leaf ps z) b (without_leaf_here r.0 r.1 ps)
        ∙ without_leaf_none ps n (omega (arith, o n, ap (λ w. same w n) b, same_refl n))) in
        let change : change_leaf (λ v. f v w) (p ∷ ps) x ≡ (p.0, f p.1 w) ∷ ps =
        cond-true (eqb p.0 x) _ _ t ∙ ap (λ (zs : List (ℕ × L)). (p.0, f p.1 w) ∷ zs)
        (change_none (λ v. f v w) ps x (omega (arith, o x, ap (λ w. same w x) q, same_refl x))) in
        let join : join_leaf f (p ∷ r ∷ ps) x ≡ (p.0, f p.1 r.1) ∷ ps = cond-true (eqb p.0 x) (join_first f p (r ∷ ps)) (p ∷ join_leaf f (r ∷ ps) x) t in
        ap (λ zs. change_leaf (λ v. f v w) zs x) out ∙ change ∙ ap (λ (z : L). (p.0, f p.1 z) ∷ ps) (sym c) ∙ sym join
    | inr k ↦
        let later : after (ids (r ∷ ps)) x ≡ Some n = sym (after_later p.0 (ids (r ∷ ps)) x k) ∙ e in
        let d : p.0 ≢ n = (λ c. omega (arith, o n, ap (λ w. same w n) c, same_refl n, after_is_in (r ∷ ps) x n later)) in
        let hl : value_after (r ∷ ps) x ≡ Some w = sym (value_after_later p.0 p.1 (r ∷ ps) x k) ∙ h in
        ap (λ zs. change_leaf (λ v. f v w) zs x) (without_leaf_later p.0 p.1 (r ∷ ps) n d) ∙ change_later (λ v. f v w) p.0 p.1 (without_leaf (r ∷ ps) n) x k
        ∙ ap (λ (zs : List (ℕ × L)). p ∷ zs) (join_from f (r ∷ ps) x n w (λ z. omega (arith, o z)) later hl)
        ∙ sym (cond-false (eqb p.0 x) (join_first f p (r ∷ ps)) (p ∷ join_leaf f (r ∷ ps) x) (ne_eqb p.0 x k))
  ]

  first_none : (ps : List (ℕ × L)) → first (ids ps) ≡ None → first_value ps ≡ None
  first_none [] e = refl
  first_none (p ∷ ps) e = cc e

  -- no value is after a leaf that no leaf is after
  pub value_after_none : (ps : List (ℕ × L)) (x : ℕ) → after (ids ps) x ≡ None → value_after ps x ≡ None
  value_after_none [] x e = refl
  value_after_none (p ∷ ps) x e = elim (cases_eq p.0 x) [
    | inl q ↦ cond-true (eqb p.0 x) (first_value ps) (value_after ps x) (eq-eqb p.0 x q)
        ∙ first_none ps (sym (cond-true (eqb p.0 x) (first (ids ps)) (after (ids ps) x) (eq-eqb p.0 x q)) ∙ e)
    | inr d ↦ value_after_later p.0 p.1 ps x d ∙ value_after_none ps x (sym (after_later p.0 (ids ps) x d) ∙ e)
  ]

  -- who is after a leaf is another
  pub after_other : (ps : List (ℕ × L)) (x n : ℕ) → ((z : ℕ) → times_leaf ps z ≤ 1) → after (ids ps) x ≡ Some n → x ≢ n
  after_other [] x n o e = cc e
  after_other (p ∷ ps) x n o e = elim (cases_eq p.0 x) [
    | inl q ↦
        let m = first_is_in ps n (sym (cond-true (eqb p.0 x) (first (ids ps)) (after (ids ps) x) (eq-eqb p.0 x q)) ∙ e) in
        λ c. omega (arith, o n, m, ap (λ w. same w n) (q ∙ c), same_refl n)
    | inr d ↦ after_other ps x n (λ z. omega (arith, o z)) (sym (after_later p.0 (ids ps) x d) ∙ e)
  ]

  pub value_without : (ps : List (ℕ × L)) (x n : ℕ) → x ≢ n → value_at (without_leaf ps n) x ≡ value_at ps x
  value_without [] x n d = refl
  value_without (p ∷ ps) x n d = elim (cases_eq p.0 n) [
    | inl q ↦
        let k : p.0 ≢ x = (λ c. d (sym c ∙ q)) in
        ap (λ zs. value_at zs x) (cond-true (eqb p.0 n) (without_leaf ps n) (p ∷ without_leaf ps n) (eq-eqb p.0 n q)) ∙ value_without ps x n d ∙ sym (value_later p.0 p.1 ps x k)
    | inr k ↦ ap (λ zs. value_at zs x) (without_leaf_later p.0 p.1 ps n k) ∙ elim (cases_eq p.0 x) [
      | inl c ↦ cond-true (eqb p.0 x) (Some p.1) (value_at (without_leaf ps n) x) (eq-eqb p.0 x c) ∙ sym (cond-true (eqb p.0 x) (Some p.1) (value_at ps x) (eq-eqb p.0 x c))
      | inr c ↦ value_later p.0 p.1 (without_leaf ps n) x c ∙ value_without ps x n d ∙ sym (value_later p.0 p.1 ps x c)
    ]
  ]

  pub length_without : (f : L → ℕ) (ps : List (ℕ × L)) (n : ℕ) (w : L) → ((z : ℕ) → times_leaf ps z ≤ 1) → value_at ps n ≡ Some w
      → length_by f (without_leaf ps n) + f w ≡ length_by f ps
  length_without f [] n w o e = cc e
  length_without f (p ∷ ps) n w o e = elim (cases_eq p.0 n) [
    | inl q ↦
        let t = eq-eqb p.0 n q in
        let h : Some p.1 ≡ Some w = sym (cond-true (eqb p.0 n) (Some p.1) (value_at ps n) t) ∙ e in
        let c : p.1 ≡ w = cc h in
        let out : without_leaf (p ∷ ps) n ≡ ps = cond-true (eqb p.0 n) (without_leaf ps n) (p ∷ without_leaf ps n) t
        ∙ without_leaf_none ps n (omega (arith, o n, ap (λ z. same z n) q, same_refl n)) in
        omega (arith, ap (length_by f) out, ap f c)
    | inr d ↦
        let rest = length_without f ps n w (λ z. omega (arith, o z)) (sym (value_later p.0 p.1 ps n d) ∙ e) in
        omega (arith, ap (length_by f) (without_leaf_later p.0 p.1 ps n d), rest)
  ]

  -- nothing holds of no value
  pub nothing_of : (o : Option L) → IsSomeAnd o (λ v. ⊥) → ⊥
  nothing_of None h = h
  nothing_of (Some v) h = h
