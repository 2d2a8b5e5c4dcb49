-- References on leaves stay right through each step on the leaves.
use Rattle.std.proofs.Common.{◌≡◌, ◌≢◌, ℕ, ◌+◌, ◌<◌, ◌≤◌, ◌⊎◌, Bool, false, List, ◌∷◌, map, length, Option, Some, IsSomeAnd, subst, sym, ◌∙◌, ap, arith}
use Rattle.std.specs.Option.{option_map_or}
use Rattle.ft_arena.specs.Ids.{after, times}
use Rattle.ft_base.specs.declared.stamps.Stamp.{Stamp}
use Rattle.ft_base.specs.Visibility.{is_acked, is_present}
use Rattle.ft_block.specs.Leaves.{IsLeafIn, IsPlaceIn, change_leaf, ids, join_leaf, left_of, length_by, move_leaf, put_leaf, split_leaf, times_leaf, value_after, value_at, without_leaf}
use Rattle.ft_block.proofs.LeafListLemmas.{after_other, value_after_is}
use Rattle.ft_tree_leaves.specs.declared.leaves.TreeLeaf.{TreeLeaf}
use Rattle.ft_tree_leaves.specs.Edits.{closed_by, moved_by, up_to_place, with_place}
use Rattle.ft_tree_leaves.specs.LeafLists.{elements}
use Rattle.ft_tree_leaves.specs.Places.{shifted_place}
use Rattle.ft_tree_leaves.specs.References.{ChangesReferences, KeepsReferences}
use Rattle.ft_refs.specs.declared.numbers.Place.{Place}
use Rattle.ft_refs.specs.RefLists.{IsHeld, place_of_reference, raised_place, split_place}
use Rattle.ft_tree_blocks.specs.Anchors.{AnchorLists, MovesAnchors, references_on}
use Rattle.ft_tree_blocks.specs.Slides.{AreSettledBut, is_unremoved_at}
use Rattle.ft_tree_blocks.specs.Unsettled.{IsSoundOn, NotesUnless}
use Rattle.ft_tree_blocks.proofs.AnchoredLeaves.{GoesOn, change_goes, join_goes, keeps, map_goes, move_goes, on_leaf, put_goes, size, split_goes, without_goes}
use Rattle.ft_tree_blocks.proofs.Neighbours.{beside}
use Rattle.ft_tree_blocks.proofs.LeafPlaces.{length_by-append}
use Rattle.ft_tree_blocks.proofs.UnsettledLeaves.{settled_changed, settled_cut, settled_joined, settled_mapped, settled_moved, settled_noted, settled_put, settled_without}

-- what holds of two leaves side by side
pub both_given : {L : Type 0} (xs : List (ℕ × L)) → ((i : ℕ) → times_leaf xs i ≤ 1) → (id next : ℕ) (v w : L) (P : L → L → Type 0) → value_at xs id ≡ Some v
    → after (ids xs) id ≡ Some next → value_at xs next ≡ Some w → IsSomeAnd (value_at xs id) (λ x. IsSomeAnd (value_after xs id) (P x)) → P v w
both_given {L} xs once id next v w P value follows value_next h =
    let rear : value_after xs id ≡ Some w = sym (value_after_is xs id next once follows) ∙ value_next in
    subst (λ (o : Option L). IsSomeAnd o (P v)) rear (subst (λ (o : Option L). IsSomeAnd o (λ x. IsSomeAnd (value_after xs id) (P x))) value h)

module _ {C U : Type 0} (units : C → List U) (by : C → Option Stamp) where
  -- references go on by this change of their places, and all stays right
  pub record Keeps (f : ℕ → ℕ) (old now : List (ℕ × TreeLeaf C)) (a b : AnchorLists) (nodes : List ℕ) : Type 0 where
    pub references : ChangesReferences (with_place f) (references_on units by old a) (references_on units by now b)
    pub sound : IsSoundOn units now b nodes

  pub kept_references : (old now : List (ℕ × TreeLeaf C)) (a b : AnchorLists) (nodes : List ℕ) → Keeps (λ j. j) old now a b nodes
      → KeepsReferences (references_on units by old a) (references_on units by now b)
  kept_references old now a b nodes k = keeps units by old now a b (record { references = k.references; anchored = k.sound.anchored })

  kept_by : (f : ℕ → ℕ) (old now : List (ℕ × TreeLeaf C)) (a b : AnchorLists) (nodes : List ℕ) → GoesOn units by f old now a b → AreSettledBut now nodes b
      → Keeps f old now a b nodes
  kept_by f old now a b nodes g s = record { references = g.references; sound = record { anchored = g.anchored; settled = s } }

  kept_as : (f : ℕ → ℕ) (old now ys : List (ℕ × TreeLeaf C)) (a b : AnchorLists) (nodes : List ℕ) → ys ≡ now → Keeps f old now a b nodes
      → Keeps f old ys a b nodes
  kept_as f old now ys a b nodes e k = subst (λ (zs : List (ℕ × TreeLeaf C)). Keeps f old zs a b nodes) (sym e) k

  module _ (xs : List (ℕ × TreeLeaf C)) (once : (i : ℕ) → times_leaf xs i ≤ 1) (a : AnchorLists) (nodes : List ℕ) (sound : IsSoundOn units xs a nodes)
      (now : List (ℕ × TreeLeaf C)) where
    -- a new leaf
    pub kept_put : (at : Option ℕ) (id : ℕ) (x : TreeLeaf C) (b : AnchorLists) (more : List ℕ) → now ≡ put_leaf xs at (id, x)
        → IsPlaceIn xs at → times_leaf xs id ≡ 0
        → IsHeld b.refs id → MovesAnchors (λ p. p) a b → more ≡ nodes
        → Keeps (shifted_place (length (elements units by (up_to_place xs at))) (length (units x.content))) xs now a b more
    kept_put at id x b more e live fresh held moves same_nodes =
        kept_as _ xs (put_leaf xs at (id, x)) now a b more e
        (kept_by _ xs (put_leaf xs at (id, x)) a b more (put_goes units by xs once a sound.anchored at id x b live fresh held moves)
        (subst (λ (zs : List ℕ). AreSettledBut (put_leaf xs at (id, x)) zs b) (sym same_nodes)
        (settled_put units by xs once a sound.anchored nodes sound.settled at id x b live fresh moves)))

    -- leaves that keep their lengths and stamps
    pub kept_mapped : (g : ℕ × TreeLeaf C → TreeLeaf C) → now ≡ map (λ x. (x.0, g x)) xs → ((x : ℕ × TreeLeaf C) → size units by (g x) ≡ size units by x.1)
        → ((x : ℕ × TreeLeaf C) → (g x).stamps ≡ x.1.stamps) → Keeps (λ j. j) xs now a a nodes
    kept_mapped g e same_size same_stamps =
        kept_as _ xs (map (λ x. (x.0, g x)) xs) now a a nodes e
        (kept_by _ xs (map (λ x. (x.0, g x)) xs) a a nodes (map_goes units by xs once a sound.anchored g same_size)
        (settled_mapped units by xs once a sound.anchored nodes sound.settled g same_stamps))

    -- leaves that keep their lengths, of which those that may be removed now are listed
    pub kept_noted : (g : ℕ × TreeLeaf C → TreeLeaf C) (more : List ℕ) → now ≡ map (λ x. (x.0, g x)) xs
        → ((x : ℕ × TreeLeaf C) → size units by (g x) ≡ size units by x.1) → ((z : ℕ) → 1 ≤ times nodes z → 1 ≤ times more z)
        → ((r : ℕ) (p : Place) → place_of_reference a.refs r ≡ Some p → IsLeafIn xs p.owner → is_unremoved_at now p.owner ≡ false
        → (is_unremoved_at now p.owner ≡ is_unremoved_at xs p.owner) ⊎ (1 ≤ times more p.owner))
        → Keeps (λ j. j) xs now a a more
    kept_noted g more e same_size still noted =
        let goes : GoesOn units by (λ j. j) xs now a a = subst (λ (zs : List (ℕ × TreeLeaf C)). GoesOn units by (λ j. j) xs zs a a) (sym e)
        (map_goes units by xs once a sound.anchored g same_size) in
        kept_by _ xs now a a more goes (settled_noted units by xs once a sound.anchored nodes sound.settled now more still noted)

    -- a leaf that gets other stamps
    pub kept_stamps : (f : TreeLeaf C → TreeLeaf C) (id : ℕ) (v : TreeLeaf C) (stands : Bool) (b : AnchorLists) (more : List ℕ) → now ≡ change_leaf f xs id
        → ((x : TreeLeaf C) → size units by (f x) ≡ size units by x) → value_at now id ≡ Some v → stands ≡ is_present is_acked v.stamps → b ≡ a
        → NotesUnless stands b id nodes more → Keeps (λ j. j) xs now a b more
    kept_stamps f id v stands b more e same_size value is_stands same_anchors notes =
        let there : is_unremoved_at now id ≡ stands = unremoved_is now id v value ∙ sym is_stands in
        subst (λ (c : AnchorLists). NotesUnless stands c id nodes more → Keeps (λ j. j) xs now a c more) (sym same_anchors)
        (λ n. kept_as _ xs (change_leaf f xs id) now a a more e
        (kept_by _ xs (change_leaf f xs id) a a more (change_goes units by xs once a sound.anchored f id same_size)
        (settled_changed units by xs once a sound.anchored nodes sound.settled f id more n.still
        (λ gone r p q w. n.listed (sym there ∙ ap (λ (zs : List (ℕ × TreeLeaf C)). is_unremoved_at zs id) e ∙ gone) r p q w)))) notes
      where
        unremoved_is : (ys : List (ℕ × TreeLeaf C)) (z : ℕ) (w : TreeLeaf C) → value_at ys z ≡ Some w → is_unremoved_at ys z ≡ is_present is_acked w.stamps
        unremoved_is ys z w e = ap (λ (o : Option (TreeLeaf C)). option_map_or (λ u. is_present is_acked u.stamps) o false) e

    module _ (id : ℕ) (v : TreeLeaf C) (value : value_at xs id ≡ Some v) where
      -- a leaf that is cut in two
      pub kept_cut : (front rear : TreeLeaf C → TreeLeaf C) (at new : ℕ) (stands : Bool) (b : AnchorLists) (more : List ℕ)
          → now ≡ split_leaf front rear xs id new
          → size units by (front v) ≡ at → at + size units by (rear v) ≡ size units by v → (front v).stamps ≡ v.stamps → (rear v).stamps ≡ v.stamps
          → times_leaf xs new ≡ 0 → IsHeld b.refs new → MovesAnchors (split_place id at new) a b → stands ≡ is_present is_acked v.stamps
          → NotesUnless stands b new nodes more → Keeps (λ j. j) xs now a b more
      kept_cut front rear at new stands b more e low high front_stamps rear_stamps fresh held moves is_stands notes =
          kept_as _ xs (split_leaf front rear xs id new) now a b more e
          (kept_by _ xs (split_leaf front rear xs id new) a b more (split_goes units by xs once a sound.anchored id v value front rear at new b low high fresh held moves)
          (settled_cut units by xs once a sound.anchored nodes sound.settled id v value front rear at new b more fresh front_stamps rear_stamps moves notes.still
          (λ gone r p q w. notes.listed (is_stands ∙ gone) r p q w)))

      -- a leaf that is joined with the next one
      pub kept_join : (next : ℕ) (w : TreeLeaf C) (join : TreeLeaf C → TreeLeaf C → TreeLeaf C) (count : ℕ) (stands : Bool) (b : AnchorLists) (more : List ℕ)
          → now ≡ join_leaf join xs id → after (ids xs) id ≡ Some next → value_at xs next ≡ Some w → size units by (join v w) ≡ size units by v + size units by w
          → (join v w).stamps ≡ v.stamps → count ≡ size units by v → MovesAnchors (raised_place next id count) a b → stands ≡ is_present is_acked v.stamps
          → NotesUnless stands b id nodes more → Keeps (λ j. j) xs now a b more
      kept_join next w join count stands b more e follows value_next both same_stamps is_count moves is_stands notes =
          let differ : id ≢ next = after_other xs id next once follows in
          let raised : MovesAnchors (raised_place next id (size units by v)) a b = subst (λ (n : ℕ). MovesAnchors (raised_place next id n) a b) is_count moves in
          kept_as _ xs (join_leaf join xs id) now a b more e
          (kept_by _ xs (join_leaf join xs id) a b more (join_goes units by xs once a sound.anchored id v value next w join b follows value_next both raised)
          (settled_joined units by xs once a sound.anchored nodes sound.settled id v value next w join count b more follows value_next differ moves notes.still
          (λ gone r p q k. notes.listed (is_stands ∙ sym (ap (is_present is_acked) same_stamps) ∙ gone) r p q k)))

      -- offsets on the next leaf fit there
      pub join_fits : (next : ℕ) (w : TreeLeaf C) (bound : ℕ) → after (ids xs) id ≡ Some next → value_at xs next ≡ Some w → length_by (size units by) xs < bound
          → (r offset : ℕ) → place_of_reference a.refs r ≡ Some record { owner = next; offset = offset } → offset + size units by v < bound
      join_fits next w bound follows value_next few r offset e =
          let p : Place = record { owner = next; offset = offset } in
          let on = on_leaf units by xs p (sound.anchored.on r p e) in
          let both : Some on.value ≡ Some w = sym on.is ∙ value_next in
          let same_leaf : on.value ≡ w = (cc) in
          let t = beside xs id next v w once value follows value_next in
          omega (
            arith,
            on.within,
            ap (size units by) same_leaf,
            few,
            ap (length_by (size units by)) t.whole,
            length_by-append (size units by) (left_of xs id) ((id, v) ∷ (next, w) ∷ t.rest),
          )

      -- a leaf that is taken out
      pub kept_without : now ≡ without_leaf xs id → ((r : ℕ) (p : Place) → place_of_reference a.refs r ≡ Some p → p.owner ≢ id)
          → Keeps (closed_by units by xs id) xs now a a nodes
      kept_without e free =
          kept_as _ xs (without_leaf xs id) now a a nodes e
          (kept_by _ xs (without_leaf xs id) a a nodes (without_goes units by xs once a sound.anchored id v value free)
          (settled_without units by xs once a sound.anchored nodes sound.settled id v value free))

      -- a leaf that is moved
      pub kept_move : (at : Option ℕ) → now ≡ move_leaf xs id at (value_at xs id) → IsPlaceIn (without_leaf xs id) at → Keeps (moved_by units by xs id at) xs now a a nodes
      kept_move at e place =
          kept_as _ xs (move_leaf xs id at (value_at xs id)) now a a nodes e
          (kept_by _ xs (move_leaf xs id at (value_at xs id)) a a nodes (move_goes units by xs once a sound.anchored id v value at place)
          (settled_moved units by xs once a sound.anchored nodes sound.settled id v value at place))
