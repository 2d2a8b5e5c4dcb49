-- What stands up to a place that was found among the leaves.
use Rattle.std.proofs.Common.{◌≡◌, ◌≢◌, ℕ, ◌+◌, ◌-◌, ◌<◌, ◌≤◌, Bool, true, false, cond, not, suc, List, [], ◌∷◌, ◌++◌, length, Option, Some, None, IsSomeAnd, nat_eq, leb, eqb, subst, refl, sym, ◌∙◌, ap, inl, inr, arith, length-append}
use Rattle.std.proofs.lemmas.Bool.{cases_eq, cases_lt, cond-true, cond-false, eq-eqb, ne_eqb, le-leb, lt-leb}
use Rattle.ft_arena.specs.Ids.{after, first}
use Rattle.ft_arena.proofs.IdLemmas.{same_refl}
use Rattle.ft_base.specs.declared.stamps.Stamp.{Stamp}
use Rattle.ft_base.specs.Visibility.{is_acked}
use Rattle.ft_base.specs.Scan.{len, one_more_if, place}
use Rattle.ft_block.specs.declared.blocks.Found.{Found}
use Rattle.ft_block.specs.declared.leaves.LenView.{LenView}
use Rattle.ft_block.specs.Leaves.{IsPlaceIn, ids, left_of, length_by, place_by, place_from, sees_in, times_leaf, value_at}
use Rattle.ft_tree_leaves.specs.declared.leaves.TreeLeaf.{TreeLeaf}
use Rattle.ft_tree_leaves.specs.Edits.{up_to_place}
use Rattle.ft_tree_leaves.specs.Elements.{TreeElement, element_with, seen_in}
use Rattle.ft_tree_leaves.specs.LeafLists.{elements, leaf_elements, leaf_length, pending_leaves}
use Rattle.ft_tree_steps.specs.LeafSteps.{IsInLeaf, held_place}
use Rattle.ft_tree_blocks.specs.Walks.{before_place, from_place, node_behind}
use Rattle.ft_tree_leaves.proofs.LeafRuns.{leaf-length, place-passes}
use Rattle.ft_tree_leaves.proofs.Runs.{len-append, place-within}
use Rattle.ft_tree_blocks.proofs.CountedWalks.{count_up_to}
use Rattle.ft_tree_blocks.proofs.FoundLeaves.{len_elements}
use Rattle.ft_tree_blocks.proofs.Walks.{before-from, first_in_place, from_first, stands, up_to-before}

module _ {C U : Type 0} (units : C → List U) (by : C → Option Stamp) where
  -- the place of p seen elements is in a leaf
  record FoundFrom (view : LenView) (xs : List (ℕ × TreeLeaf C)) (p : ℕ) (found : Found) : Type 0 where
    pub id : ℕ
    pub is : found.leaf ≡ Some id
    pub live : 1 ≤ times_leaf xs id
    pub held : IsInLeaf units xs (Some id) found.offset
    pub place : place (seen_in view) p (elements units by xs) ≡ held_place units by xs (Some id) found.offset

  abbrev IsGiven : LenView → List (ℕ × TreeLeaf C) → ℕ → Option Found → Type 0
  IsGiven view xs p None = ⊥
  IsGiven view xs p (Some found) = FoundFrom view xs p found

  within_by : (b : Bool) (view : LenView) (x : TreeLeaf C) (ys : List (TreeElement U)) (p : ℕ) → sees_in view x.stamps ≡ b → 0 < p
      → p ≤ cond b (length (units x.content)) 0
      → (place (seen_in view) p (leaf_elements units by x ++ ys) ≡ p) × (p ≤ length (units x.content))
  within_by true view x ys p h some le =
      (place-within (seen_in view) (element_with x.stamps (by x.content) x.overlay) (λ u. h) (units x.content) p ys le, le)
  within_by false view x ys p h some le = absurd (omega arith)

  found_from : (view : LenView) (xs : List (ℕ × TreeLeaf C)) (p : ℕ) (found : Found) → ((i : ℕ) → times_leaf xs i ≤ 1) → 0 < p
      → place_from (leaf_length units view) xs p ≡ Some found → FoundFrom view xs p found
  found_from view [] p found once some e = (cc)
  found_from view (x ∷ xs) p found once some e = elim (cases_lt (leaf_length units view x.1) p) [
    | inl later ↦
        let n = leaf_length units view x.1 in
        let rest : place_from (leaf_length units view) xs (p - n) ≡ Some found = sym (cond-false (leb p n) _ _ (lt-leb p n later)) ∙ e in
        let r = found_from view xs (p - n) found (λ i. omega (arith, once i)) (omega arith) rest in
        let d : x.0 ≢ r.id = λ q. omega (arith, once x.0, same_refl x.0, r.live, ap (times_leaf xs) q) in
        let seen = leaf-length units by view x.1 in
        let passes = place-passes units by view x.1 (elements units by xs) p some (omega (arith, seen)) in
        let left : left_of (x ∷ xs) r.id ≡ x ∷ left_of xs r.id = cond-false (nat_eq x.0 r.id) _ _ (ne_eqb x.0 r.id d) in
        record {
          id = r.id;
          is = r.is;
          live = omega (arith, r.live);
          held = subst (λ o. IsSomeAnd o (λ v. (1 ≤ found.offset) × (found.offset ≤ length (units v.content))))
              (sym (cond-false (nat_eq x.0 r.id) (Some x.1) (value_at xs r.id) (ne_eqb x.0 r.id d))) r.held;
          place = omega (
            arith,
            passes,
            ap (λ k. place (seen_in view) (p - k) (elements units by xs)) seen,
            r.place,
            ap (λ ys. length (elements units by ys)) left,
            length-append (leaf_elements units by x.1) (elements units by (left_of xs r.id)),
          );
        }
    | inr here ↦
        let n = leaf_length units view x.1 in
        let first : Some record { leaf = Some x.0; offset = p } ≡ Some found = sym (cond-true (leb p n) _ _ (le-leb p n here)) ∙ e in
        let inside = within_by (sees_in view x.1.stamps) view x.1 (elements units by xs) p refl some here in
        let itself = eq-eqb x.0 x.0 refl in
        subst (IsGiven view (x ∷ xs) p) first (record {
          id = x.0;
          is = refl;
          live = omega (arith, same_refl x.0);
          held = subst (λ o. IsSomeAnd o (λ v. (1 ≤ p) × (p ≤ length (units v.content)))) (sym (cond-true (nat_eq x.0 x.0) (Some x.1) (value_at xs x.0) itself))
              (omega arith, inside.1);
          place = omega (arith, inside.0, ap (λ ys. length (elements units by ys)) (cond-true (nat_eq x.0 x.0) [] (x ∷ left_of xs x.0) itself));
        })
  ]

  -- the place of p seen elements is where a search finds it
  pub record FoundAt (view : LenView) (xs : List (ℕ × TreeLeaf C)) (p : ℕ) (at : Option ℕ) (n : ℕ) : Type 0 where
    pub held : IsInLeaf units xs at n
    pub place : place (seen_in view) p (elements units by xs) ≡ held_place units by xs at n

  abbrev IsFoundBy : LenView → List (ℕ × TreeLeaf C) → ℕ → Option Found → Type 0
  IsFoundBy view xs p None = ⊥
  IsFoundBy view xs p (Some found) = FoundAt view xs p found.leaf found.offset

  pub found_at : (view : LenView) (xs : List (ℕ × TreeLeaf C)) (p : ℕ) (found : Found) → ((i : ℕ) → times_leaf xs i ≤ 1)
      → place_by (leaf_length units view) xs p ≡ Some found → FoundAt view xs p found.leaf found.offset
  found_at view xs p found once e = elim (cases_eq p 0) [
    | inl z ↦
        let head : Some record { leaf = None; offset = 0 } ≡ Some found = sym (cond-true (eqb p 0) _ _ (eq-eqb p 0 z)) ∙ e in
        subst (IsFoundBy view xs p) head (record { held = refl; place = ap (λ k. place (seen_in view) k (elements units by xs)) z })
    | inr d ↦
        let r = found_from view xs p found once (omega arith) (sym (cond-false (eqb p 0) _ _ (ne_eqb p 0 d)) ∙ e) in
        record {
          held = subst (λ o. IsInLeaf units xs o found.offset) (sym r.is) r.held;
          place = r.place ∙ ap (λ o. held_place units by xs o found.offset) (sym r.is);
        }
  ]

  -- a place that was found is no further than what is seen
  inside_from : (f : TreeLeaf C → ℕ) (xs : List (ℕ × TreeLeaf C)) (p : ℕ) (found : Found) → place_from f xs p ≡ Some found → p ≤ length_by f xs
  inside_from f [] p found e = (cc)
  inside_from f (x ∷ xs) p found e = elim (cases_lt (f x.1) p) [
    | inl later ↦
        let rest : place_from f xs (p - f x.1) ≡ Some found = sym (cond-false (leb p (f x.1)) _ _ (lt-leb p (f x.1) later)) ∙ e in
        omega (arith, inside_from f xs (p - f x.1) found rest)
    | inr here ↦ omega arith
  ]

  pub found_inside : (view : LenView) (xs : List (ℕ × TreeLeaf C)) (p : ℕ) (found : Found) → place_by (leaf_length units view) xs p ≡ Some found
      → p ≤ len (seen_in view) (elements units by xs)
  found_inside view xs p found e = elim (cases_eq p 0) [
    | inl z ↦ omega arith
    | inr d ↦
        let inside = inside_from (leaf_length units view) xs p found (sym (cond-false (eqb p 0) _ _ (ne_eqb p 0 d)) ∙ e) in
        omega (arith, len_elements units by view xs, inside)
  ]

  -- what is said of a leaf that was found
  pub held_here : (xs : List (ℕ × TreeLeaf C)) (id n : ℕ) (v : TreeLeaf C) → IsInLeaf units xs (Some id) n → value_at xs id ≡ Some v
      → (1 ≤ n) × (n ≤ length (units v.content))
  held_here xs id n v h e = subst (λ (o : Option (TreeLeaf C)). IsSomeAnd o (λ w. (1 ≤ n) × (n ≤ length (units w.content)))) e h

  -- how many elements stand up to the end of the leaf behind a place
  pub count_behind : (xs : List (ℕ × TreeLeaf C)) (at : Option ℕ) (id : ℕ) (v : TreeLeaf C) → ((i : ℕ) → times_leaf xs i ≤ 1) → IsPlaceIn xs at
      → node_behind xs at ≡ Some id → value_at xs id ≡ Some v
      → length (elements units by (up_to_place xs (Some id))) ≡ length (elements units by (up_to_place xs at)) + length (units v.content)
  count_behind xs at id v once live next e =
      omega (
        arith,
        count_up_to units by xs id v once e,
        ap (λ zs. length (elements units by zs)) (up_to-before xs at once live ∙ ap (before_place xs) next),
      )

  -- the elements from a leaf on
  pub elements-from : (xs : List (ℕ × TreeLeaf C)) (id : ℕ) (v : TreeLeaf C) → ((i : ℕ) → times_leaf xs i ≤ 1) → value_at xs id ≡ Some v
      → elements units by (from_place xs (Some id)) ≡ leaf_elements units by v ++ elements units by (from_place xs (after (ids xs) id))
  elements-from xs id v once e = ap (elements units by) (stands xs id v once e).from

  -- a walk stands at the first leaf at first
  pub walks_first : (xs : List (ℕ × TreeLeaf C)) (at : Option ℕ) → at ≡ first (ids xs) → elements units by (from_place xs at) ≡ elements units by xs
  walks_first xs at e = ap (λ o. elements units by (from_place xs o)) e ∙ ap (elements units by) (from_first xs)

  pub walks_live : (xs : List (ℕ × TreeLeaf C)) (at : Option ℕ) → at ≡ first (ids xs) → IsPlaceIn xs at
  walks_live xs at e = subst (IsPlaceIn xs) (sym e) (first_in_place xs)

  -- the pending leaves from a place on are among all
  pub pending_suffix : (xs : List (ℕ × TreeLeaf C)) (at : Option ℕ) → pending_leaves (from_place xs at) ≤ pending_leaves xs
  pending_suffix xs at =
      let test : ℕ × TreeLeaf C → Bool = λ x. not (is_acked x.1.stamps.ins) in
      omega (arith, ap (len test) (before-from xs at), len-append test (before_place xs at) (from_place xs at))

  -- one of which is this, if it is pending
  pub pending_from : (xs : List (ℕ × TreeLeaf C)) (id : ℕ) (v : TreeLeaf C) → ((i : ℕ) → times_leaf xs i ≤ 1) → value_at xs id ≡ Some v
      → not (is_acked v.stamps.ins) ≡ true → pending_leaves (from_place xs (Some id)) ≡ suc (pending_leaves (from_place xs (after (ids xs) id)))
  pending_from xs id v once e h =
      ap pending_leaves (stands xs id v once e).from ∙ ap (λ b. one_more_if b (pending_leaves (from_place xs (after (ids xs) id)))) h
