-- References on leaves after each change of the list of leaves: where they stand among the elements, and that they still
-- stand on leaves.
use Rattle.std.proofs.Common.{◌≡◌, ◌≢◌, ℕ, zero, suc, ◌+◌, ◌<◌, ◌≤◌, Bool, true, false, cond, nat_eq, List, [], ◌∷◌, ◌++◌, map, length, get_or, Option, Some, None, IsSomeAnd, option_map, subst, refl, sym, ◌∙◌, ap, inl, inr, arith}
use Rattle.std.proofs.lemmas.Bool.{cases_eq, cond-true, cond-false, eq-eqb, ne_eqb}
use Rattle.ft_arena.specs.Ids.{after, same}
use Rattle.ft_arena.proofs.IdLemmas.{same_other, same_refl}
use Rattle.ft_base.specs.declared.stamps.Stamp.{Stamp}
use Rattle.ft_block.specs.Leaves.{IsLeafIn, IsPlaceIn, change_leaf, ids, join_leaf, left_of, length_by, move_leaf, put_leaf, split_leaf, times_leaf, value_at, without_leaf}
use Rattle.ft_block.proofs.LeafListLemmas.{value_at_in}
use Rattle.ft_tree_leaves.specs.declared.leaves.TreeLeaf.{TreeLeaf}
use Rattle.ft_tree_leaves.specs.declared.references.Reference.{Reference}
use Rattle.ft_tree_leaves.specs.Edits.{closed_by, closed_place, leaf_at, moved_by, moved_place, up_to_place, with_place}
use Rattle.ft_tree_leaves.specs.LeafLists.{elements}
use Rattle.ft_tree_leaves.specs.Places.{shifted_place}
use Rattle.ft_tree_leaves.specs.References.{ChangesReferences, KeepsReferences, reference_at}
use Rattle.ft_tree_leaves.proofs.CutLeaves.{times-append}
use Rattle.ft_tree_leaves.proofs.LeafEdits.{times-without-one}
use Rattle.ft_tree_leaves.proofs.LeafRuns.{length-elements}
use Rattle.ft_tree_leaves.proofs.Standing.{change-map, join-split}
use Rattle.ft_refs.specs.declared.numbers.Place.{Place}
use Rattle.ft_refs.specs.RefLists.{IsHeld, entry, place_of_entry, place_of_reference, raised_place, split_place}
use Rattle.ft_tree_blocks.specs.Anchors.{AnchorLists, AreAnchored, MovesAnchors, is_acked_at, numbered, reference_on, references_on}
use Rattle.ft_tree_blocks.specs.LeafPlaces.{IsOnLeaf, place_on}
use Rattle.ft_tree_blocks.specs.Walks.{from_place, node_behind}
use Rattle.ft_tree_blocks.proofs.Neighbours.{beside}
use Rattle.ft_tree_blocks.proofs.LeafPlaces.{Goes, OnLeaf, count_before, goes_as, goes_joined, goes_map, goes_moved, goes_put, goes_split, goes_without, without-split}
use Rattle.ft_tree_blocks.proofs.MovedLeaves.{count_alone}
use Rattle.ft_tree_blocks.proofs.Walks.{stands, up_to-from}
use Rattle.ft_tree_blocks.proofs.WalkEdits.{put-behind, split-split}

-- no number below the first
numbered_below : (f : ℕ → Option Place → Reference) (n r : ℕ) (ps : List (Option (Option Place))) → r < n → reference_at (numbered f n ps) r ≡ None
numbered_below f n r [] h = refl
numbered_below f n r (None ∷ ps) h = numbered_below f (n + 1) r ps (omega arith)
numbered_below f n r (Some p ∷ ps) h =
    cond-false (nat_eq n r) (Some (f n p)) (reference_at (numbered f (n + 1) ps) r) (ne_eqb n r (λ e. omega (arith, e)))
    ∙ numbered_below f (n + 1) r ps (omega arith)

-- the reference of a number
reference_at-numbered : (f : ℕ → Option Place → Reference) (n j r : ℕ) (ps : List (Option (Option Place))) → r ≡ n + j
    → reference_at (numbered f n ps) r ≡ option_map (f r) (get_or ps j None)
reference_at-numbered f n j r [] e = refl
reference_at-numbered f n zero r (None ∷ ps) e = numbered_below f (n + 1) r ps (omega arith)
reference_at-numbered f n (suc j) r (None ∷ ps) e = reference_at-numbered f (n + 1) j r ps (omega arith)
reference_at-numbered f n zero r (Some p ∷ ps) e =
    let here : n ≡ r = omega arith in
    cond-true (nat_eq n r) (Some (f n p)) (reference_at (numbered f (n + 1) ps) r) (eq-eqb n r here) ∙ ap (λ k. Some (f k p)) here
reference_at-numbered f n (suc j) r (Some p ∷ ps) e =
    cond-false (nat_eq n r) (Some (f n p)) (reference_at (numbered f (n + 1) ps) r) (ne_eqb n r (λ d. omega (arith, d)))
    ∙ reference_at-numbered f (n + 1) j r ps (omega arith)

some_and : {A : Type 0} (o : Option A) (P : A → Type 0) → IsSomeAnd o P → (v : A) × (o ≡ Some v) × P v
some_and None P h = absurd h
some_and (Some v) P h = (v, refl, h)

same_entry : (q : Option (Option Place)) → q ≡ option_map (option_map (λ p. p)) q
same_entry None = refl
same_entry (Some None) = refl
same_entry (Some (Some p)) = refl

-- references that stay where they are
pub anchors_stay : (a : AnchorLists) → MovesAnchors (λ p. p) a a
anchors_stay a = record { places = λ r. same_entry (entry a.refs r); acked = refl; held = λ z h. h }

module _ {C U : Type 0} (units : C → List U) (by : C → Option Stamp) where
  -- how many elements a leaf holds
  abbrev pub size : TreeLeaf C → ℕ
  size x = length (units x.content)

  -- the reference of a number as a tree shows it
  pub reference_at-on : (xs : List (ℕ × TreeLeaf C)) (a : AnchorLists) (r : ℕ)
      → reference_at (references_on units by xs a) r ≡ option_map (reference_on units by xs (is_acked_at a r)) (entry a.refs r)
  reference_at-on xs a r = reference_at-numbered (λ k p. reference_on units by xs (is_acked_at a k) p) 0 r r a.refs.refs (omega arith)

  pub on_leaf : (xs : List (ℕ × TreeLeaf C)) (p : Place) → IsOnLeaf units xs p → OnLeaf size xs p
  on_leaf xs p h =
      let s = some_and (value_at xs p.owner) (λ v. p.offset < length (units v.content)) h in
      record { value = s.0; is = s.1; within = s.2 }

  pub is_on_leaf : (xs : List (ℕ × TreeLeaf C)) (p : Place) → OnLeaf size xs p → IsOnLeaf units xs p
  is_on_leaf xs p on = subst (λ o. IsSomeAnd o (λ v. p.offset < length (units v.content))) (sym on.is) on.within

  pub place_on-count : (xs : List (ℕ × TreeLeaf C)) (p : Place) → place_on units by xs p ≡ count_before size xs p
  place_on-count xs p = ap (λ k. k + p.offset) (length-elements units by (left_of xs p.owner))

  pub owner_live : (xs : List (ℕ × TreeLeaf C)) (p : Place) → OnLeaf size xs p → IsLeafIn xs p.owner
  owner_live xs p on = value_at_in xs p.owner (λ v. p.offset < length (units v.content)) (is_on_leaf xs p on)

  -- the references go on by this change of their places, and stand on leaves
  pub record GoesOn (f : ℕ → ℕ) (old now : List (ℕ × TreeLeaf C)) (a b : AnchorLists) : Type 0 where
    pub references : ChangesReferences (with_place f) (references_on units by old a) (references_on units by now b)
    pub anchored : AreAnchored units now b

  same_reference : (o : Option Reference) → option_map (with_place (λ j. j)) o ≡ o
  same_reference None = refl
  same_reference (Some x) = ap Some (same_place x.place x.acked)
    where
      same_place : (p : Option ℕ) (acked : Bool) → with_place (λ j. j) (record { place = p; acked = acked }) ≡ record { place = p; acked = acked }
      same_place None acked = refl
      same_place (Some j) acked = refl

  pub keeps : (old now : List (ℕ × TreeLeaf C)) (a b : AnchorLists) → GoesOn (λ j. j) old now a b → KeepsReferences (references_on units by old a) (references_on units by now b)
  keeps old now a b g r = g.references r ∙ same_reference (reference_at (references_on units by old a) r)

  module _ (g : Place → Place) (f : ℕ → ℕ) (old now : List (ℕ × TreeLeaf C)) (a b : AnchorLists) (moves : MovesAnchors g a b)
      (goes : (r : ℕ) (p : Place) → place_of_reference a.refs r ≡ Some p → Goes size now (g p) (f (count_before size old p))) where
    place_goes : (r : ℕ) (p : Place) → place_of_reference a.refs r ≡ Some p → place_on units by now (g p) ≡ f (place_on units by old p)
    place_goes r p e = place_on-count now (g p) ∙ (goes r p e).place ∙ ap f (sym (place_on-count old p))

    entry_goes : (r : ℕ) (flag : Bool) (q : Option (Option Place)) → entry a.refs r ≡ q
        → option_map (reference_on units by now flag) (option_map (option_map g) q) ≡ option_map (with_place f) (option_map (reference_on units by old flag) q)
    entry_goes r flag None e = refl
    entry_goes r flag (Some None) e = refl
    entry_goes r flag (Some (Some p)) e = ap (λ j. Some record { place = Some j; acked = flag }) (place_goes r p (ap place_of_entry e))

    stands_on : (r : ℕ) (p : Place) (q : Option (Option Place)) → entry a.refs r ≡ q
        → place_of_entry (option_map (option_map g) q) ≡ Some p → IsOnLeaf units now p
    stands_on r p None e h = (cc)
    stands_on r p (Some None) e h = (cc)
    stands_on r p (Some (Some was)) e h =
        let same : g was ≡ p = (cc) in
        subst (IsOnLeaf units now) same (is_on_leaf now (g was) (goes r was (ap place_of_entry e)).on)

    pub goes_on : ((id : ℕ) → IsLeafIn now id → IsHeld b.refs id) → GoesOn f old now a b
    goes_on held = record {
      references = λ r.
          reference_at-on now b r
          ∙ ap (option_map (reference_on units by now (is_acked_at b r))) (moves.places r)
          ∙ ap (λ fs. option_map (reference_on units by now (get_or fs r false)) (option_map (option_map g) (entry a.refs r))) moves.acked
          ∙ entry_goes r (is_acked_at a r) (entry a.refs r) refl
          ∙ ap (option_map (with_place f)) (sym (reference_at-on old a r));
      anchored = record {
        on = λ r p e. stands_on r p (entry a.refs r) refl (sym (ap place_of_entry (moves.places r)) ∙ e);
        held = held;
      };
    }

  goes_between : (xs ys now zs : List (ℕ × TreeLeaf C)) (p q : Place) (f : ℕ → ℕ) → xs ≡ ys → now ≡ zs
      → (OnLeaf size ys p → Goes size zs q (f (count_before size ys p)))
      → OnLeaf size xs p → Goes size now q (f (count_before size xs p))
  goes_between xs ys now zs p q f e d h on =
      subst (λ (ws : List (ℕ × TreeLeaf C)). Goes size ws q (f (count_before size xs p))) (sym d)
      (subst (λ (ws : List (ℕ × TreeLeaf C)). OnLeaf size ws p → Goes size zs q (f (count_before size ws p))) (sym e) h on)

  module _ (xs : List (ℕ × TreeLeaf C)) (once : (i : ℕ) → times_leaf xs i ≤ 1) (a : AnchorLists) (anchored : AreAnchored units xs a) where
    there : (r : ℕ) (p : Place) → place_of_reference a.refs r ≡ Some p → OnLeaf size xs p
    there r p e = on_leaf xs p (anchored.on r p e)

    elsewhere : (id : ℕ) (p : Place) → times_leaf xs id ≡ 0 → OnLeaf size xs p → id ≢ p.owner
    elsewhere id p fresh on e = omega (arith, owner_live xs p on, fresh, ap (times_leaf xs) e)

    -- a new leaf
    module _ (at : Option ℕ) (id : ℕ) (x : TreeLeaf C) (b : AnchorLists) (live : IsPlaceIn xs at) (fresh : times_leaf xs id ≡ 0) (held : IsHeld b.refs id)
        (moves : MovesAnchors (λ p. p) a b) where
      up : List (ℕ × TreeLeaf C)
      up = up_to_place xs at

      rest : List (ℕ × TreeLeaf C)
      rest = from_place xs (node_behind xs at)

      put_held : (z : ℕ) → IsLeafIn (put_leaf xs at (id, x)) z → IsHeld b.refs z
      unfolding up rest
      put_held z h = elim (cases_eq id z) [
        | inl e ↦ subst (IsHeld b.refs) e held
        | inr d ↦
            moves.held z (anchored.held z (omega (
              arith,
              h,
              ap (λ (ys : List (ℕ × TreeLeaf C)). times_leaf ys z) (put-behind xs at (id, x) once live),
              times-append up ((id, x) ∷ rest) z,
              same_other id z d,
              ap (λ (ys : List (ℕ × TreeLeaf C)). times_leaf ys z) (up_to-from xs at once live),
              times-append up rest z,
            )))
      ]

      pub put_goes : GoesOn (shifted_place (length (elements units by (up_to_place xs at))) (length (units x.content))) xs (put_leaf xs at (id, x)) a b
      unfolding up rest
      put_goes =
          let n = length (units x.content) in
          let f = λ (j : ℕ). shifted_place (length (elements units by up)) n j in
          goes_on (λ p. p) f xs (put_leaf xs at (id, x)) a b moves
          (λ r p e. goes_between xs (up ++ rest) (put_leaf xs at (id, x)) (up ++ (id, x) ∷ rest) p p f (sym (up_to-from xs at once live)) (put-behind xs at (id, x) once live)
          (λ on. goes_as size (up ++ (id, x) ∷ rest) p _ _ (goes_put size up rest (id, x) p (elsewhere id p fresh (there r p e)) on)
          (ap (λ (i : ℕ). shifted_place i n (count_before size (up ++ rest) p)) (sym (length-elements units by up)))) (there r p e))
          put_held

    module _ (id : ℕ) (v : TreeLeaf C) (value : value_at xs id ≡ Some v) where
      left : List (ℕ × TreeLeaf C)
      left = left_of xs id

      right : List (ℕ × TreeLeaf C)
      right = from_place xs (after (ids xs) id)

      -- a leaf that is cut in two
      module _ (front rear : TreeLeaf C → TreeLeaf C) (at new : ℕ) (b : AnchorLists) (low : size (front v) ≡ at) (high : at + size (rear v) ≡ size v)
          (fresh : times_leaf xs new ≡ 0) (held : IsHeld b.refs new) (moves : MovesAnchors (split_place id at new) a b) where
        whole : split_leaf front rear xs id new ≡ left ++ (id, front v) ∷ (new, rear v) ∷ right
        unfolding left right
        whole = let s = stands xs id v once value in ap (λ ys. split_leaf front rear ys id new) s.whole ∙ split-split front rear id new v right left s.right s.left

        split_held : (z : ℕ) → IsLeafIn (split_leaf front rear xs id new) z → IsHeld b.refs z
        unfolding left right
        split_held z h = elim (cases_eq new z) [
          | inl e ↦ subst (IsHeld b.refs) e held
          | inr d ↦
              let s = stands xs id v once value in
              moves.held z (anchored.held z (omega (
                arith,
                h,
                ap (λ (ys : List (ℕ × TreeLeaf C)). times_leaf ys z) whole,
                times-append left ((id, front v) ∷ (new, rear v) ∷ right) z,
                same_other new z d,
                ap (λ (ys : List (ℕ × TreeLeaf C)). times_leaf ys z) s.whole,
                times-append left ((id, v) ∷ right) z,
              )))
        ]

        pub split_goes : GoesOn (λ j. j) xs (split_leaf front rear xs id new) a b
        unfolding left right
        split_goes =
            let s = stands xs id v once value in
            let none : times_leaf left new ≡ 0 =
            omega (arith, fresh, ap (λ (ys : List (ℕ × TreeLeaf C)). times_leaf ys new) s.whole, times-append left ((id, v) ∷ right) new) in
            let differ : id ≢ new =
            λ e. omega (arith, fresh, ap (λ (ys : List (ℕ × TreeLeaf C)). times_leaf ys new) s.whole, times-append left ((id, v) ∷ right) new, ap (λ k. same k new) e, same_refl new) in
            goes_on (split_place id at new) (λ j. j) xs (split_leaf front rear xs id new) a b moves
            (λ r p e. goes_between xs (left ++ (id, v) ∷ right) (split_leaf front rear xs id new)
            (left ++ (id, front v) ∷ (new, rear v) ∷ right) p (split_place id at new p) (λ j. j) s.whole
            whole (goes_split size left right id new at v (front v) (rear v) low high s.left none differ p (elsewhere new p fresh (there r p e))) (there r p e))
            split_held

      -- a leaf that is joined with the next one
      module _ (next : ℕ) (w : TreeLeaf C) (join : TreeLeaf C → TreeLeaf C → TreeLeaf C) (b : AnchorLists) (follows : after (ids xs) id ≡ Some next) (value_next : value_at xs next ≡ Some w)
          (both : size (join v w) ≡ size v + size w) (moves : MovesAnchors (raised_place next id (size v)) a b) where
        pub join_goes : GoesOn (λ j. j) xs (join_leaf join xs id) a b
        unfolding left right
        join_goes =
            let t = beside xs id next v w once value follows value_next in
            let joined : join_leaf join xs id ≡ left ++ (id, join v w) ∷ t.rest =
            ap (λ ys. join_leaf join ys id) t.whole ∙ join-split id v ((next, w) ∷ t.rest) join left t.apart in
            let apart : times_leaf left next ≡ 0 = omega (arith, t.front, times-append left ((id, v) ∷ []) next) in
            let differ : id ≢ next = λ e. omega (arith, t.front, times-append left ((id, v) ∷ []) next, ap (λ k. same k next) e, same_refl next) in
            goes_on (raised_place next id (size v)) (λ j. j) xs (join_leaf join xs id) a b moves
            (λ r p e. goes_between xs (left ++ (id, v) ∷ (next, w) ∷ t.rest) (join_leaf join xs id) (left ++ (id, join v w) ∷ t.rest) p
            (raised_place next id (size v) p) (λ j. j) t.whole
            joined (goes_joined size left t.rest id next v w (join v w) both t.apart apart differ p) (there r p e))
            (λ z h. moves.held z (anchored.held z (omega (
              arith,
              h,
              ap (λ (ys : List (ℕ × TreeLeaf C)). times_leaf ys z) joined,
              times-append left ((id, join v w) ∷ t.rest) z,
              ap (λ (ys : List (ℕ × TreeLeaf C)). times_leaf ys z) t.whole,
              times-append left ((id, v) ∷ (next, w) ∷ t.rest) z,
            ))))

      out : without_leaf xs id ≡ left ++ right
      unfolding left right
      out = let s = stands xs id v once value in ap (λ ys. without_leaf ys id) s.whole ∙ without-split id v right left s.right s.left

      one : times_leaf xs id ≡ 1
      one =
          let s = stands xs id v once value in
          omega (
            arith,
            once id,
            ap (λ (ys : List (ℕ × TreeLeaf C)). times_leaf ys id) s.whole,
            times-append (left_of xs id) ((id, v) ∷ from_place xs (after (ids xs) id)) id,
            same_refl id,
          )

      -- a leaf that is taken out, on which no reference stands
      pub without_goes : ((r : ℕ) (p : Place) → place_of_reference a.refs r ≡ Some p → p.owner ≢ id) → GoesOn (closed_by units by xs id) xs (without_leaf xs id) a a
      unfolding left right
      without_goes free =
          let s = stands xs id v once value in
          let f = closed_by units by xs id in
          goes_on (λ p. p) f xs (without_leaf xs id) a a (anchors_stay a)
          (λ r p e. goes_as size (without_leaf xs id) p _ _ (goes_between xs (left ++ (id, v) ∷ right) (without_leaf xs id) (left ++ right) p p
          (λ j. closed_place (length_by size left) (size v) j) s.whole out
          (goes_without size left right (id, v) p (λ q. free r p e (sym q))) (there r p e))
          (ap (λ (i : ℕ). closed_place i (size v) (count_before size xs p)) (sym (length-elements units by left))
          ∙ ap (λ (n : ℕ). closed_place (length (elements units by left)) n (count_before size xs p)) (sym (count_alone units by xs id v (once id) value))))
          (λ z h. anchored.held z (omega (arith, h, times-without-one xs id z one)))

      -- a leaf that is moved
      pub move_goes : (at : Option ℕ) → IsPlaceIn (without_leaf xs id) at → GoesOn (moved_by units by xs id at) xs (move_leaf xs id at (value_at xs id)) a a
      unfolding left right
      move_goes at place =
          let s = stands xs id v once value in
          let others = without_leaf xs id in
          let once_there : (i : ℕ) → times_leaf others i ≤ 1 = λ i. omega (arith, times-without-one xs id i one, once i) in
          let none : times_leaf others id ≡ 0 = omega (arith, times-without-one xs id id one, same_refl id, one) in
          let k = up_to_place others at in
          let m = from_place others (node_behind others at) in
          let cut : k ++ m ≡ others = up_to-from others at once_there place in
          let apart : times_leaf k id ≡ 0 = omega (arith, none, ap (λ (ys : List (ℕ × TreeLeaf C)). times_leaf ys id) cut, times-append k m id) in
          let moved : move_leaf xs id at (value_at xs id) ≡ k ++ (id, v) ∷ m = ap (move_leaf xs id at) value ∙ put-behind others at (id, v) once_there place in
          goes_on (λ p. p) (moved_by units by xs id at) xs (move_leaf xs id at (value_at xs id)) a a (anchors_stay a)
          (λ r p e. goes_as size (move_leaf xs id at (value_at xs id)) p _ _ (goes_between xs (left ++ (id, v) ∷ right) (move_leaf xs id at (value_at xs id)) (k ++ (id, v) ∷ m) p p
          (λ j. moved_place (length_by size left) (size v) (length_by size k) j) s.whole moved
          (goes_moved size left right k m (id, v) p (sym out ∙ sym cut) s.left apart) (there r p e))
          (ap (λ (i : ℕ). moved_place i (size v) (length_by size k) (count_before size xs p)) (sym (length-elements units by left))
          ∙ ap (λ (n : ℕ). moved_place (length (elements units by left)) n (length_by size k) (count_before size xs p)) (sym (count_alone units by xs id v (once id) value))
          ∙ ap (λ (d : ℕ). moved_place (length (elements units by left)) (length (elements units by (leaf_at xs id))) d (count_before size xs p)) (sym (length-elements units by k))))
          (λ z h. anchored.held z (omega (
            arith,
            h,
            ap (λ (ys : List (ℕ × TreeLeaf C)). times_leaf ys z) moved,
            times-append k ((id, v) ∷ m) z,
            ap (λ (ys : List (ℕ × TreeLeaf C)). times_leaf ys z) cut,
            times-append k m z,
            times-without-one xs id z one,
          )))

    times-map : (g : ℕ × TreeLeaf C → TreeLeaf C) (ys : List (ℕ × TreeLeaf C)) (z : ℕ) → times_leaf (map (λ x. (x.0, g x)) ys) z ≡ times_leaf ys z
    times-map g [] z = refl
    times-map g (y ∷ ys) z = ap (λ k. same y.0 z + k) (times-map g ys z)

    -- leaves that change and keep their lengths
    pub map_goes : (g : ℕ × TreeLeaf C → TreeLeaf C) → ((x : ℕ × TreeLeaf C) → size (g x) ≡ size x.1) → GoesOn (λ j. j) xs (map (λ x. (x.0, g x)) xs) a a
    map_goes g same_size =
        goes_on (λ p. p) (λ j. j) xs (map (λ x. (x.0, g x)) xs) a a (anchors_stay a) (λ r p e. goes_map size g same_size xs p (there r p e))
        (λ z h. anchored.held z (omega (arith, h, times-map g xs z)))

    changed_size : (f : TreeLeaf C → TreeLeaf C) → ((x : TreeLeaf C) → size (f x) ≡ size x) → (b : Bool) (x : TreeLeaf C) → size (cond b (f x) x) ≡ size x
    changed_size f same_size true x = same_size x
    changed_size f same_size false x = refl

    -- one of them
    pub change_goes : (f : TreeLeaf C → TreeLeaf C) (id : ℕ) → ((x : TreeLeaf C) → size (f x) ≡ size x) → GoesOn (λ j. j) xs (change_leaf f xs id) a a
    change_goes f id same_size =
        subst (λ (ys : List (ℕ × TreeLeaf C)). GoesOn (λ j. j) xs ys a a) (sym (change-map f xs id))
        (map_goes (λ x. cond (nat_eq x.0 id) (f x.1) x.1) (λ x. changed_size f same_size (nat_eq x.0 id) x.1))
