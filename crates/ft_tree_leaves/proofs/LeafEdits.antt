-- Edits of one leaf of a list: how often each node stands there then, and how many elements there are.
use Rattle.std.proofs.Common.{◌≡◌, ◌≢◌, ℕ, ◌+◌, ◌≤◌, Bool, true, false, cond, List, [], ◌∷◌, map, length, nat_eq, Option, Some, None, subst, refl, sym, ◌∙◌, ap, inl, inr, arith}
use Rattle.std.proofs.lemmas.Bool.{cases_eq, cond-false, cond-true, eq-eqb, ne_eqb}
use Rattle.ft_arena.specs.Ids.{after, same}
use Rattle.ft_arena.proofs.IdLemmas.{same_other, same_refl}
use Rattle.ft_base.specs.declared.stamps.Stamp.{Stamp}
use Rattle.ft_block.specs.Leaves.{IsLeafIn, IsPlaceIn, ids, length_by, move_leaf, put_leaf, put_leaf_after, times_leaf, value_at, without_leaf}
use Rattle.ft_block.proofs.CallerLemmas.{after_is_in, length_by-put_leaf}
use Rattle.ft_block.proofs.LeafListLemmas.{after_other, length_without}
use Rattle.ft_tree_leaves.specs.declared.leaves.TreeLeaf.{TreeLeaf}
use Rattle.ft_tree_leaves.specs.Edits.{sequenced_leaf, sweep_without, unmarked_leaf}
use Rattle.ft_tree_leaves.specs.LeafChanges.{sequenced_pair, unmarked_pair}
use Rattle.ft_tree_leaves.specs.Plain.{WithoutNode}
use Rattle.ft_tree_leaves.specs.LeafLists.{elements}
use Rattle.ft_tree_leaves.proofs.LeafRuns.{length-elements}
use Rattle.ft_tree_leaves.proofs.Standing.{put-apart, without-apart}

module _ {L : Type 0} where
  -- without a leaf its node stands nowhere, and each other as before
  pub times-without-one : (xs : List (ℕ × L)) (id z : ℕ) → times_leaf xs id ≡ 1 → times_leaf (without_leaf xs id) z + same id z ≡ times_leaf xs z
  times-without-one [] id z h = absurd (omega arith)
  times-without-one (x ∷ xs) id z h = elim (cases_eq x.0 id) [
    | inl e ↦
        let rest : times_leaf xs id ≡ 0 = omega (arith, h, same_refl id, ap (λ k. same k id) e) in
        let out : without_leaf (x ∷ xs) id ≡ xs = cond-true (nat_eq x.0 id) _ _ (eq-eqb x.0 id e) ∙ without-apart id xs rest in
        omega (arith, ap (λ (ys : List (ℕ × L)). times_leaf ys z) out, ap (λ k. same k z) e)
    | inr d ↦
        let kept : without_leaf (x ∷ xs) id ≡ x ∷ without_leaf xs id = cond-false (nat_eq x.0 id) _ _ (ne_eqb x.0 id d) in
        omega (arith, ap (λ (ys : List (ℕ × L)). times_leaf ys z) kept, times-without-one xs id z (omega (arith, h, same_other x.0 id d)))
  ]

  times-put_after : (xs : List (ℕ × L)) (at : ℕ) (new : ℕ × L) (z : ℕ) → times_leaf xs at ≡ 1
      → times_leaf (put_leaf_after xs at new) z ≡ times_leaf xs z + same new.0 z
  times-put_after [] at new z h = absurd (omega arith)
  times-put_after (x ∷ xs) at new z h = elim (cases_eq x.0 at) [
    | inl e ↦
        let rest : times_leaf xs at ≡ 0 = omega (arith, h, same_refl at, ap (λ k. same k at) e) in
        let put : put_leaf_after (x ∷ xs) at new ≡ x ∷ new ∷ xs = cond-true (nat_eq x.0 at) _ _ (eq-eqb x.0 at e)
        ∙ ap (λ (ys : List (ℕ × L)). x ∷ new ∷ ys) (put-apart at new xs rest) in
        omega (arith, ap (λ (ys : List (ℕ × L)). times_leaf ys z) put)
    | inr d ↦
        let kept : put_leaf_after (x ∷ xs) at new ≡ x ∷ put_leaf_after xs at new = cond-false (nat_eq x.0 at) _ _ (ne_eqb x.0 at d) in
        omega (arith, ap (λ (ys : List (ℕ × L)). times_leaf ys z) kept, times-put_after xs at new z (omega (arith, h, same_other x.0 at d)))
  ]

  times-put : (xs : List (ℕ × L)) (at : Option ℕ) (new : ℕ × L) (z : ℕ) → IsPlaceIn xs at → ((i : ℕ) → times_leaf xs i ≤ 1)
      → times_leaf (put_leaf xs at new) z ≡ times_leaf xs z + same new.0 z
  times-put xs None new z live once = omega arith
  times-put xs (Some at) new z live once = times-put_after xs at new z (omega (arith, live, once at))

  once_without : (xs : List (ℕ × L)) (id : ℕ) → ((i : ℕ) → times_leaf xs i ≤ 1) → times_leaf xs id ≡ 1 → (i : ℕ) → times_leaf (without_leaf xs id) i ≤ 1
  once_without xs id once live i = omega (arith, times-without-one xs id i live, once i)

  moved_value : (xs : List (ℕ × L)) (id : ℕ) (at : Option ℕ) (v : L) → value_at xs id ≡ Some v
      → move_leaf xs id at (value_at xs id) ≡ put_leaf (without_leaf xs id) at (id, v)
  moved_value xs id at v e = ap (move_leaf xs id at) e

  -- after a move each node stands as often as before
  pub times-moved : (xs : List (ℕ × L)) (id : ℕ) (at : Option ℕ) (v : L) (z : ℕ) → ((i : ℕ) → times_leaf xs i ≤ 1) → IsLeafIn xs id
      → value_at xs id ≡ Some v → IsPlaceIn (without_leaf xs id) at
      → times_leaf (move_leaf xs id at (value_at xs id)) z ≡ times_leaf xs z
  times-moved xs id at v z once live e place =
      let one : times_leaf xs id ≡ 1 = omega (arith, live, once id) in
      omega (
        arith,
        ap (λ (ys : List (ℕ × L)). times_leaf ys z) (moved_value xs id at v e),
        times-put (without_leaf xs id) at (id, v) z place (once_without xs id once one),
        times-without-one xs id z one,
      )

  -- and the leaves are as long together
  pub length-moved : (f : L → ℕ) (xs : List (ℕ × L)) (id : ℕ) (at : Option ℕ) (v : L) → ((i : ℕ) → times_leaf xs i ≤ 1) → IsLeafIn xs id
      → value_at xs id ≡ Some v → IsPlaceIn (without_leaf xs id) at
      → length_by f (move_leaf xs id at (value_at xs id)) ≡ length_by f xs
  length-moved f xs id at v once live e place =
      let one : times_leaf xs id ≡ 1 = omega (arith, live, once id) in
      omega (
        arith,
        ap (length_by f) (moved_value xs id at v e),
        length_by-put_leaf f (without_leaf xs id) at (id, v) place (once_without xs id once one),
        length_without f xs id v once e,
      )

  -- and their lengths
  pub length-map_by : (f : L → ℕ) (g : ℕ × L → L) → ((x : ℕ × L) → f (g x) ≡ f x.1) → (xs : List (ℕ × L))
      → length_by f (map (λ x. (x.0, g x)) xs) ≡ length_by f xs
  length-map_by f g h [] = refl
  length-map_by f g h (x ∷ xs) = omega (arith, h x, length-map_by f g h xs)

  -- the next leaf is another one that stands there
  after_there : (xs : List (ℕ × L)) (id : ℕ) (o : Option ℕ) → ((i : ℕ) → times_leaf xs i ≤ 1) → after (ids xs) id ≡ o → (ys : List (ℕ × L))
      → ((z : ℕ) → z ≢ id → times_leaf ys z ≡ times_leaf xs z) → IsPlaceIn ys o
  after_there xs id None once e ys others = tt
  after_there xs id (Some n) once e ys others =
      let d : n ≢ id = λ q. after_other xs id n once e (sym q) in
      omega (arith, others n d, after_is_in xs id n e)

  -- where the next sweep begins once a leaf is gone
  pub sweep_there : (xs ys : List (ℕ × L)) (id : ℕ) (s : Option ℕ) → ((i : ℕ) → times_leaf xs i ≤ 1)
      → ((z : ℕ) → z ≢ id → times_leaf ys z ≡ times_leaf xs z) → IsPlaceIn xs s → IsPlaceIn ys (sweep_without xs id s)
  sweep_there xs ys id None once others live = tt
  sweep_there xs ys id (Some s) once others live = elim (cases_eq s id) [
    | inl e ↦ subst (IsPlaceIn ys) (sym (cond-true (nat_eq s id) (after (ids xs) id) (Some s) (eq-eqb s id e))) (after_there xs id (after (ids xs) id) once refl ys others)
    | inr d ↦ subst (IsPlaceIn ys) (sym (cond-false (nat_eq s id) (after (ids xs) id) (Some s) (ne_eqb s id d))) (omega (arith, others s d, live))
  ]

module _ {C U : Type 0} (units : C → List U) (by : C → Option Stamp) where
  -- a list without a leaf
  pub without_node : (xs : List (ℕ × TreeLeaf C)) (id : ℕ) (v : TreeLeaf C) → ((i : ℕ) → times_leaf xs i ≤ 1) → IsLeafIn xs id
      → value_at xs id ≡ Some v → WithoutNode units by id xs (without_leaf xs id)
  without_node xs id v once live e =
      let one : times_leaf xs id ≡ 1 = omega (arith, live, once id) in
      record {
        others = λ z d. omega (arith, times-without-one xs id z one, same_other id z (λ q. d (sym q)));
        gone = omega (arith, times-without-one xs id id one, same_refl id, one);
        fewer = omega (
          arith,
          length-elements units by xs,
          length-elements units by (without_leaf xs id),
          length_without (λ (x : TreeLeaf C). length (units x.content)) xs id v once e,
        );
      }

  -- a moved leaf
  pub elements-moved : (xs : List (ℕ × TreeLeaf C)) (id : ℕ) (at : Option ℕ) (v : TreeLeaf C) → ((i : ℕ) → times_leaf xs i ≤ 1) → IsLeafIn xs id
      → value_at xs id ≡ Some v → IsPlaceIn (without_leaf xs id) at
      → length (elements units by (move_leaf xs id at (value_at xs id))) ≡ length (elements units by xs)
  elements-moved xs id at v once live e place =
      omega (
        arith,
        length-elements units by xs,
        length-elements units by (move_leaf xs id at (value_at xs id)),
        length-moved (λ (x : TreeLeaf C). length (units x.content)) xs id at v once live e place,
      )

  unmarked_by : (b : Bool) (k : ℕ) (x : TreeLeaf C) → length (units (cond b (unmarked_leaf k x) x).content) ≡ length (units x.content)
  unmarked_by true k x = refl
  unmarked_by false k x = refl

  -- a leaf without what stage k has on it
  pub elements-unmarked : (k : ℕ) (xs : List (ℕ × TreeLeaf C)) (id : ℕ) → length (elements units by (map (unmarked_pair id k) xs)) ≡ length (elements units by xs)
  elements-unmarked k xs id =
      let g : ℕ × TreeLeaf C → TreeLeaf C = λ x. cond (nat_eq x.0 id) (unmarked_leaf k x.1) x.1 in
      length-elements units by (map (λ x. (x.0, g x)) xs)
      ∙ length-map_by (λ (x : TreeLeaf C). length (units x.content)) g (λ x. unmarked_by (nat_eq x.0 id) k x.1) xs
      ∙ sym (length-elements units by xs)

  sequenced_by : (b : Bool) (x : TreeLeaf C) → length (units (cond b (sequenced_leaf x) x).content) ≡ length (units x.content)
  sequenced_by true x = refl
  sequenced_by false x = refl

  -- a leaf with nothing pending on it
  pub elements-sequenced : (xs : List (ℕ × TreeLeaf C)) (id : ℕ) → length (elements units by (map (sequenced_pair id) xs)) ≡ length (elements units by xs)
  elements-sequenced xs id =
      let g : ℕ × TreeLeaf C → TreeLeaf C = λ x. cond (nat_eq x.0 id) (sequenced_leaf x.1) x.1 in
      length-elements units by (map (λ x. (x.0, g x)) xs)
      ∙ length-map_by (λ (x : TreeLeaf C). length (units x.content)) g (λ x. sequenced_by (nat_eq x.0 id) x.1) xs
      ∙ sym (length-elements units by xs)
