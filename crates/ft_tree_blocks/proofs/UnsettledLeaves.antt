-- On which leaves acknowledged references may have to slide, after each change of the list of leaves.
use Rattle.std.proofs.Common.{◌≡◌, ◌≢◌, ℕ, ◌≤◌, ◌⊎◌, Bool, true, false, cond, nat_eq, List, [], ◌∷◌, map, get_or, Option, Some, None, option_map, subst, refl, sym, ◌∙◌, ap, inl, inr, arith}
use Rattle.std.specs.Option.{option_map_or}
use Rattle.std.proofs.lemmas.Bool.{cases_eq, cond-true, cond-false, eq-eqb, ne_eqb}
use Rattle.ft_arena.specs.Ids.{after, times}
use Rattle.ft_base.specs.declared.stamps.Stamp.{Stamp}
use Rattle.ft_base.specs.Visibility.{is_acked, is_present}
use Rattle.ft_block.specs.Leaves.{IsLeafIn, IsPlaceIn, change_leaf, ids, join_leaf, move_leaf, put_leaf, split_leaf, times_leaf, value_at, without_leaf}
use Rattle.ft_block.proofs.LeafListLemmas.{value_without}
use Rattle.ft_tree_leaves.specs.declared.leaves.TreeLeaf.{TreeLeaf}
use Rattle.ft_tree_leaves.proofs.Standing.{change-map}
use Rattle.ft_refs.specs.declared.numbers.Place.{Place}
use Rattle.ft_refs.specs.RefLists.{entry, place_of_entry, place_of_reference, raised_place, split_place}
use Rattle.ft_tree_blocks.specs.Anchors.{AnchorLists, AreAnchored, MovesAnchors, is_acked_at}
use Rattle.ft_tree_blocks.specs.Slides.{AreSettledBut, is_unremoved_at}
use Rattle.ft_tree_blocks.proofs.AnchoredLeaves.{anchors_stay, on_leaf, owner_live}
use Rattle.ft_tree_blocks.proofs.MovedLeaves.{place_among, place_apart}
use Rattle.ft_tree_blocks.proofs.LeafPlaces.{raised_here, raised_other, split_high, split_low, split_other}
use Rattle.ft_tree_blocks.proofs.StepValues.{is_live, is_some, other_value, own_value, rear-split, value-join, value-move, value-put, value-split}
use Rattle.std.proofs.lemmas.Bool.{cases_lt}

module _ {L : Type 0} where
  -- what a test tells of the leaf of a node, where it tells the same of the leaf after a change
  pub told-map : (test : L → Bool) (g : ℕ × L → L) (z : ℕ) → ((x : ℕ × L) → x.0 ≡ z → test (g x) ≡ test x.1) → (xs : List (ℕ × L))
      → option_map_or test (value_at (map (λ x. (x.0, g x)) xs) z) false ≡ option_map_or test (value_at xs z) false
  told-map test g z h [] = refl
  told-map test g z h (x ∷ xs) = elim (cases_eq x.0 z) [
    | inl e ↦
        let here = eq-eqb x.0 z e in
        ap (λ (o : Option L). option_map_or test o false) (cond-true (nat_eq x.0 z) (Some (g x)) (value_at (map (λ (y : ℕ × L). (y.0, g y)) xs) z) here)
        ∙ h x e ∙ sym (ap (λ (o : Option L). option_map_or test o false) (cond-true (nat_eq x.0 z) (Some x.1) (value_at xs z) here))
    | inr d ↦
        let later = ne_eqb x.0 z d in
        ap (λ (o : Option L). option_map_or test o false) (cond-false (nat_eq x.0 z) (Some (g x)) (value_at (map (λ (y : ℕ × L). (y.0, g y)) xs) z) later)
        ∙ told-map test g z h xs ∙ sym (ap (λ (o : Option L). option_map_or test o false) (cond-false (nat_eq x.0 z) (Some x.1) (value_at xs z) later))
  ]

module _ {C U : Type 0} (units : C → List U) (by : C → Option Stamp) where
  abbrev pub unremoved_leaf : TreeLeaf C → Bool
  unremoved_leaf v = is_present is_acked v.stamps

  unremoved_as : (xs ys : List (ℕ × TreeLeaf C)) (y z : ℕ) → value_at xs y ≡ value_at ys z → is_unremoved_at xs y ≡ is_unremoved_at ys z
  unremoved_as xs ys y z e = ap (λ (o : Option (TreeLeaf C)). option_map_or unremoved_leaf o false) e

  placed_before : (g : Place → Place) (p : Place) (q : Option (Option Place)) → place_of_entry (option_map (option_map g) q) ≡ Some p
      → (was : Place) × (place_of_entry q ≡ Some was) × (g was ≡ p)
  placed_before g p None h = (cc)
  placed_before g p (Some None) h = (cc)
  placed_before g p (Some (Some was)) h = let same_place : g was ≡ p = (cc) in (was, refl, same_place)

  module _ (xs now : List (ℕ × TreeLeaf C)) (a b : AnchorLists) (anchored : AreAnchored units xs a) (g : Place → Place) (moves : MovesAnchors g a b)
      (nodes more : List ℕ) (settled : AreSettledBut xs nodes a) where
    -- each that isn't settled now wasn't before, and is noted; or is noted now
    pub settled_by : ((r : ℕ) (was : Place) → place_of_reference a.refs r ≡ Some was → IsLeafIn xs was.owner → place_of_reference b.refs r ≡ Some (g was)
        → is_unremoved_at now (g was).owner ≡ false
        → ((is_unremoved_at xs was.owner ≡ false) × (1 ≤ times nodes was.owner → 1 ≤ times more (g was).owner)) ⊎ (1 ≤ times more (g was).owner))
        → AreSettledBut now more b
    settled_by h r p e f gone =
        let from = placed_before g p (entry a.refs r) (sym (ap place_of_entry (moves.places r)) ∙ e) in
        let live = owner_live units by xs from.0 (on_leaf units by xs from.0 (anchored.on r from.0 from.1)) in
        let flag : is_acked_at a r ≡ true = sym (ap (λ (fs : List Bool). get_or fs r false) moves.acked) ∙ f in
        let gone_there : is_unremoved_at now (g from.0).owner ≡ false = ap (λ (q : Place). is_unremoved_at now q.owner) from.2 ∙ gone in
        subst (λ (q : Place). 1 ≤ times more q.owner) from.2 (elim (h r from.0 from.1 live (e ∙ ap Some (sym from.2)) gone_there) [
          | inl both ↦ both.1 (settled r from.0 from.1 flag both.0)
          | inr noted ↦ noted
        ])

  module _ (xs : List (ℕ × TreeLeaf C)) (once : (i : ℕ) → times_leaf xs i ≤ 1) (a : AnchorLists) (anchored : AreAnchored units xs a) (nodes : List ℕ)
      (settled : AreSettledBut xs nodes a) where
    -- each leaf is as unremoved as before, or noted
    pub settled_noted : (now : List (ℕ × TreeLeaf C)) (more : List ℕ) → ((z : ℕ) → 1 ≤ times nodes z → 1 ≤ times more z)
        → ((r : ℕ) (p : Place) → place_of_reference a.refs r ≡ Some p → IsLeafIn xs p.owner → is_unremoved_at now p.owner ≡ false
        → (is_unremoved_at now p.owner ≡ is_unremoved_at xs p.owner) ⊎ (1 ≤ times more p.owner))
        → AreSettledBut now more a
    settled_noted now more kept h =
        settled_by xs now a a anchored (λ p. p) (anchors_stay a) nodes more settled (λ r was e live there gone. elim (h r was e live gone) [
          | inl same_there ↦ inl (sym same_there ∙ gone, kept was.owner)
          | inr noted ↦ inr noted
        ])

    pub settled_same : (now : List (ℕ × TreeLeaf C)) → ((z : ℕ) → IsLeafIn xs z → is_unremoved_at now z ≡ is_unremoved_at xs z) → AreSettledBut now nodes a
    settled_same now h = settled_noted now nodes (λ z k. k) (λ r p e live gone. inl (h p.owner live))

    -- a new leaf
    pub settled_put : (at : Option ℕ) (id : ℕ) (x : TreeLeaf C) (b : AnchorLists) → IsPlaceIn xs at → times_leaf xs id ≡ 0 → MovesAnchors (λ p. p) a b
        → AreSettledBut (put_leaf xs at (id, x)) nodes b
    settled_put at id x b place fresh moves =
        settled_by xs (put_leaf xs at (id, x)) a b anchored (λ p. p) moves nodes nodes settled (λ r was e live there gone.
        let d : id ≢ was.owner = λ q. omega (arith, live, fresh, ap (times_leaf xs) q) in
        let same_there = unremoved_as (put_leaf xs at (id, x)) xs was.owner was.owner (value-put xs at id was.owner x (λ q. d (sym q))) in
        inl (sym same_there ∙ gone, λ k. k))

    -- a leaf that is changed
    pub settled_changed : (f : TreeLeaf C → TreeLeaf C) (id : ℕ) (more : List ℕ) → ((z : ℕ) → 1 ≤ times nodes z → 1 ≤ times more z)
        → (is_unremoved_at (change_leaf f xs id) id ≡ false → (r : ℕ) (p : Place) → place_of_reference a.refs r ≡ Some p → p.owner ≡ id → 1 ≤ times more id)
        → AreSettledBut (change_leaf f xs id) more a
    settled_changed f id more kept noted =
        settled_noted (change_leaf f xs id) more kept (λ r p e live gone. elim (cases_eq p.owner id) [
          | inl q ↦
              inr (subst (λ (z : ℕ). 1 ≤ times more z) (sym q) (noted (ap (is_unremoved_at (change_leaf f xs id)) (sym q) ∙ gone) r p e q))
          | inr d ↦
              inl (ap (λ (ys : List (ℕ × TreeLeaf C)). is_unremoved_at ys p.owner) (change-map f xs id)
              ∙ told-map unremoved_leaf (λ x. cond (nat_eq x.0 id) (f x.1) x.1) p.owner
              (λ x q. ap (λ (c : Bool). unremoved_leaf (cond c (f x.1) x.1)) (ne_eqb x.0 id (λ k. d (sym q ∙ k)))) xs)
        ])

    -- leaves that keep their stamps
    pub settled_mapped : (g : ℕ × TreeLeaf C → TreeLeaf C) → ((x : ℕ × TreeLeaf C) → (g x).stamps ≡ x.1.stamps)
        → AreSettledBut (map (λ x. (x.0, g x)) xs) nodes a
    settled_mapped g same_stamps =
        settled_same (map (λ x. (x.0, g x)) xs) (λ z live. told-map unremoved_leaf g z (λ x q. ap (is_present is_acked) (same_stamps x)) xs)

    module _ (id : ℕ) (v : TreeLeaf C) (value : value_at xs id ≡ Some v) where
      -- a leaf that is taken out, on which no reference stands
      pub settled_without : ((r : ℕ) (p : Place) → place_of_reference a.refs r ≡ Some p → p.owner ≢ id) → AreSettledBut (without_leaf xs id) nodes a
      settled_without free =
          settled_noted (without_leaf xs id) nodes (λ z k. k)
          (λ r p e live gone. inl (unremoved_as (without_leaf xs id) xs p.owner p.owner (value_without xs p.owner id (free r p e))))

      -- a leaf that is moved
      pub settled_moved : (at : Option ℕ) → IsPlaceIn (without_leaf xs id) at → AreSettledBut (move_leaf xs id at (value_at xs id)) nodes a
      settled_moved at place =
          let live_here : IsLeafIn xs id = is_live xs id (is_some (value_at xs id) v value) in
          let one : times_leaf xs id ≡ 1 = omega (arith, once id, live_here) in
          settled_same (move_leaf xs id at (value_at xs id))
          (λ z live. unremoved_as (move_leaf xs id at (value_at xs id)) xs z z
          (value-move xs id at z once live_here (place_among xs id one at place) (place_apart xs id one at place)))

      here : (ys : List (ℕ × TreeLeaf C)) (z : ℕ) (w : TreeLeaf C) → value_at ys z ≡ Some w → is_unremoved_at ys z ≡ unremoved_leaf w
      here ys z w e = ap (λ (o : Option (TreeLeaf C)). option_map_or unremoved_leaf o false) e

      -- a leaf that is cut in two
      pub settled_cut : (front rear : TreeLeaf C → TreeLeaf C) (at new : ℕ) (b : AnchorLists) (more : List ℕ) → times_leaf xs new ≡ 0
          → (front v).stamps ≡ v.stamps → (rear v).stamps ≡ v.stamps → MovesAnchors (split_place id at new) a b
          → ((z : ℕ) → 1 ≤ times nodes z → 1 ≤ times more z)
          → (unremoved_leaf v ≡ false → (r : ℕ) (p : Place) → place_of_reference b.refs r ≡ Some p → p.owner ≡ new → 1 ≤ times more new)
          → AreSettledBut (split_leaf front rear xs id new) more b
      settled_cut front rear at new b more fresh front_stamps rear_stamps moves kept noted =
          let now = split_leaf front rear xs id new in
          let apart : (z : ℕ) → IsLeafIn xs z → new ≢ z = λ z live q. omega (arith, live, fresh, ap (times_leaf xs) q) in
          let live_here : IsLeafIn xs id = is_live xs id (is_some (value_at xs id) v value) in
          settled_by xs now a b anchored (split_place id at new) moves nodes more settled (λ r was e live there gone. elim (cases_eq was.owner id) [
            | inl q ↦ elim (cases_lt was.offset at) [
              | inl low ↦
                  let stays = split_low id at new was q low in
                  let same_there : is_unremoved_at now was.owner ≡ is_unremoved_at xs was.owner =
                  ap (is_unremoved_at now) q ∙ here now id (front v)
                  (value-split front rear xs id new id (λ k. apart id live_here (sym k)) ∙ own_value front (value_at xs id) id v value) ∙ ap (is_present is_acked) front_stamps
                  ∙ sym (here xs id v value) ∙ ap (is_unremoved_at xs) (sym q) in
                  inl (
                    sym same_there ∙ ap (λ (p : Place). is_unremoved_at now p.owner) (sym stays) ∙ gone,
                    λ k. subst (λ (p : Place). 1 ≤ times more p.owner) (sym stays) (kept was.owner k),
                  )
              | inr high ↦
                  let goes : (split_place id at new was).owner ≡ new = ap (λ (p : Place). p.owner) (split_high id at new was q high) in
                  let of_rear : unremoved_leaf v ≡ false =
                  sym (here now new (rear v) (rear-split front rear xs id new fresh ∙ ap (option_map rear) value) ∙ ap (is_present is_acked) rear_stamps)
                  ∙ ap (is_unremoved_at now) (sym goes) ∙ gone in
                  inr (subst (λ (z : ℕ). 1 ≤ times more z) (sym goes) (noted of_rear r (split_place id at new was) there goes))
            ]
            | inr d ↦
                let stays = split_other id at new was d in
                let same_there = unremoved_as now xs was.owner was.owner
                (value-split front rear xs id new was.owner (λ k. apart was.owner live (sym k)) ∙ other_value front (value_at xs was.owner) id was.owner d) in
                inl (
                  sym same_there ∙ ap (λ (p : Place). is_unremoved_at now p.owner) (sym stays) ∙ gone,
                  λ k. subst (λ (p : Place). 1 ≤ times more p.owner) (sym stays) (kept was.owner k),
                )
          ])

      -- a leaf that is joined with the next one
      pub settled_joined : (next : ℕ) (w : TreeLeaf C) (join : TreeLeaf C → TreeLeaf C → TreeLeaf C) (count : ℕ) (b : AnchorLists) (more : List ℕ)
          → after (ids xs) id ≡ Some next → value_at xs next ≡ Some w → id ≢ next → MovesAnchors (raised_place next id count) a b
          → ((z : ℕ) → 1 ≤ times nodes z → 1 ≤ times more z)
          → (unremoved_leaf (join v w) ≡ false → (r : ℕ) (p : Place) → place_of_reference b.refs r ≡ Some p → p.owner ≡ id → 1 ≤ times more id)
          → AreSettledBut (join_leaf join xs id) more b
      settled_joined next w join count b more follows value_next differ moves kept noted =
          let now = join_leaf join xs id in
          let here_now = here now id (join v w)
          (value-join join xs id next id w once follows value_next differ ∙ own_value (λ u. join u w) (value_at xs id) id v value) in
          settled_by xs now a b anchored (raised_place next id count) moves nodes more settled (λ r was e live there gone. elim (cases_eq was.owner next) [
            | inl q ↦
                let goes : (raised_place next id count was).owner ≡ id = ap (λ (p : Place). p.owner) (raised_here next id count was q) in
                inr (subst (λ (z : ℕ). 1 ≤ times more z) (sym goes)
                (noted (sym here_now ∙ ap (is_unremoved_at now) (sym goes) ∙ gone) r (raised_place next id count was) there goes))
            | inr d ↦
                let stays = raised_other next id count was d in
                elim (cases_eq was.owner id) [
                  | inl q ↦
                      let goes : (raised_place next id count was).owner ≡ id = ap (λ (p : Place). p.owner) stays ∙ q in
                      inr (subst (λ (z : ℕ). 1 ≤ times more z) (sym goes)
                      (noted (sym here_now ∙ ap (is_unremoved_at now) (sym goes) ∙ gone) r (raised_place next id count was) there goes))
                  | inr f ↦
                      let same_there = unremoved_as now xs was.owner was.owner
                      (value-join join xs id next was.owner w once follows value_next d ∙ other_value (λ u. join u w) (value_at xs was.owner) id was.owner f) in
                      inl (
                        sym same_there ∙ ap (λ (p : Place). is_unremoved_at now p.owner) (sym stays) ∙ gone,
                        λ k. subst (λ (p : Place). 1 ≤ times more p.owner) (sym stays) (kept was.owner k),
                      )
                ]
          ])
