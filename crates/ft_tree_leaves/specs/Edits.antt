-- Edits of the leaves of a tree, for those who walk them: what each makes of the list of leaves, and of the places of
-- references.
use Rattle.std.specs.Prelude.{◌≡◌, ℕ, ◌+◌, ◌-◌, Bool, true, false, cond, ◌&&◌, ◌||◌, nat_eq, nat_le, nat_lt, List, [], ◌∷◌, ◌++◌, Option, Some, None, filter, flat_map, length, map, option_map, option_and_then}
use Rattle.std.specs.List.{filter_map, list_any}
use Rattle.ft_arena.specs.Ids.{after}
use Rattle.ft_base.specs.declared.stamps.Stamp.{Stamp}
use Rattle.ft_base.specs.declared.stamps.Stamp.TheVariants.{Acked, Local}
use Rattle.ft_base.specs.Visibility.{is_of_stage}
use Rattle.ft_block.specs.Leaves.{ids, left_of, value_after, value_at, without_leaf}
use Rattle.ft_props.specs.Compaction.{is_insertion_at_or_below}
use Rattle.ft_props.specs.Overlay.{after_drop}
use Rattle.ft_tree_leaves.specs.declared.leaves.TreeLeaf.{TreeLeaf}
use Rattle.ft_tree_leaves.specs.declared.references.Reference.{Reference}
use Rattle.ft_tree_leaves.specs.Elements.{TreeElement, sequenced_overlay, sequenced_stamps, universal_stamps, unmarked_stamps}
use Rattle.ft_tree_leaves.specs.Places.{shifted_place}
use Rattle.ft_tree_leaves.specs.LeafLists.{elements}
use Rattle.ft_tree_leaves.specs.References.{reference_place, reference_at}

module _ {L : Type 0} where
  -- the leaves up to that of this node, or none where no node is given
  abbrev pub up_to_leaf : List (ℕ × L) → ℕ → List (ℕ × L)
  up_to_leaf [] at = []
  up_to_leaf (x ∷ xs) at = x ∷ cond (nat_eq x.0 at) [] (up_to_leaf xs at)

  abbrev pub up_to_place : List (ℕ × L) → Option ℕ → List (ℕ × L)
  up_to_place xs None = []
  up_to_place xs (Some at) = up_to_leaf xs at

  -- the leaf of this node alone
  abbrev pub leaf_at : List (ℕ × L) → ℕ → List (ℕ × L)
  leaf_at xs id = filter (λ x. nat_eq x.0 id) xs

  -- where the next sweep begins after the leaf of this node is gone: at the one after it, if it was to begin there
  abbrev pub sweep_without : List (ℕ × L) → ℕ → Option ℕ → Option ℕ
  sweep_without xs id None = None
  sweep_without xs id (Some s) = cond (nat_eq s id) (after (ids xs) id) (Some s)

  -- the same after the leaf of this node, if one is given, is gone
  abbrev pub sweep_behind : List (ℕ × L) → Option ℕ → Option ℕ → Option ℕ
  sweep_behind xs s None = s
  sweep_behind xs s (Some id) = sweep_without xs id s

  -- the same after the leaf behind that of this node is gone
  abbrev pub sweep_joined : List (ℕ × L) → ℕ → Option ℕ → Option ℕ
  sweep_joined xs id s = sweep_behind xs s (after (ids xs) id)

-- the place of an element after n elements at place i were taken out, which it is none of
abbrev pub closed_place : ℕ → ℕ → ℕ → ℕ
closed_place i n j = cond (nat_lt j i) j (j - n)

-- the place of an element after the n elements at place i were moved, so that d of the others stand before them
abbrev pub moved_place : ℕ → ℕ → ℕ → ℕ → ℕ
moved_place i n d j =
    cond (nat_le i j && nat_lt j (i + n)) (d + (j - i)) (shifted_place d n (closed_place i n j))

module _ {C U : Type 0} (units : C → List U) (by : C → Option Stamp) where
  -- how many elements these leaves hold
  abbrev count : List (ℕ × TreeLeaf C) → ℕ
  count xs = length (elements units by xs)

  -- the place of an element after the leaf of a node was taken out, which it is not of
  abbrev pub closed_by : List (ℕ × TreeLeaf C) → ℕ → ℕ → ℕ
  closed_by xs id = closed_place (count (left_of xs id)) (count (leaf_at xs id))

  -- the place of an element after the leaf of a node was moved directly after another, or first where no other is given
  abbrev pub moved_by : List (ℕ × TreeLeaf C) → ℕ → Option ℕ → ℕ → ℕ
  moved_by xs id at = moved_place (count (left_of xs id)) (count (leaf_at xs id)) (count (up_to_place (without_leaf xs id) at))

-- a reference with this change of its place
abbrev pub with_place : (ℕ → ℕ) → Reference → Reference
with_place f x = record x { place = option_map f x.place }

-- a leaf without its removal mark and its changes of stage k
abbrev pub unmarked_leaf : {C : Type 0} → ℕ → TreeLeaf C → TreeLeaf C
unmarked_leaf k x = record x { stamps = unmarked_stamps k x.stamps; overlay = after_drop k x.overlay }

-- a leaf without pending removal marks and pending changes
abbrev pub sequenced_leaf : {C : Type 0} → TreeLeaf C → TreeLeaf C
sequenced_leaf x = record x { stamps = sequenced_stamps x.stamps; overlay = sequenced_overlay x.overlay }

-- whether stage k marks the leaf as removed or has changes of it
abbrev pub is_marked_by : {C : Type 0} → ℕ → TreeLeaf C → Bool
is_marked_by k x = list_any (is_of_stage k) x.stamps.dels || list_any (λ c. nat_eq c.0 k) x.overlay.pending

-- whether the leaf has something of stage k: its insertion, a removal mark or changes
abbrev pub is_touched_by : {C : Type 0} → ℕ → TreeLeaf C → Bool
is_touched_by k x = is_of_stage k x.stamps.ins || is_marked_by k x

-- the nodes of the leaves that have something of stage k
abbrev pub touched_nodes : {C : Type 0} → ℕ → List (ℕ × TreeLeaf C) → List ℕ
touched_nodes k xs = ids (filter (λ x. is_touched_by k x.1) xs)

-- the insertion is at or below the floor, nobody has removed the leaf, and nothing is pending on it
pub record IsBare {C : Type 0} (floor : ℕ) (x : TreeLeaf C) : Type 0 where
  pub insertion : is_insertion_at_or_below floor x.stamps.ins ≡ true
  pub kept : x.stamps.dels ≡ []
  pub settled : x.overlay.pending ≡ []

-- two leaves may be joined at the floor: both are bare, and they have equal properties and contents that can be joined
pub record MayJoin {C : Type 0} (joins : C → C → Bool) (floor : ℕ) (x y : TreeLeaf C) : Type 0 where
  pub front : IsBare floor x
  pub rear : IsBare floor y
  pub props : x.overlay.acked ≡ y.overlay.acked
  pub contents : joins x.content y.content ≡ true

-- the same of two leaves, if both are given
abbrev pub MayJoinGiven : {C : Type 0} → (C → C → Bool) → ℕ → Option (TreeLeaf C) → Option (TreeLeaf C) → Type 0
MayJoinGiven joins floor None y = ⊥
MayJoinGiven joins floor (Some x) None = ⊥
MayJoinGiven joins floor (Some x) (Some y) = MayJoin joins floor x y

-- the same of the leaf of this node and the next one
abbrev pub MayJoinNext : {C : Type 0} → (C → C → Bool) → ℕ → List (ℕ × TreeLeaf C) → ℕ → Type 0
MayJoinNext joins floor xs id = MayJoinGiven joins floor (value_at xs id) (value_after xs id)

-- two leaves in one, with the insertion that everybody sees
abbrev pub joined_leaf : {C : Type 0} → (C → C → C) → TreeLeaf C → TreeLeaf C → TreeLeaf C
joined_leaf joined x y = record { content = joined x.content y.content; stamps = universal_stamps x.stamps; overlay = x.overlay }

-- the pending stage of a stamp, if it is pending
abbrev pub stage_of : Stamp → Option ℕ
stage_of (Acked s c) = None
stage_of (Local k) = Some k

-- the lesser of n and another number, if there is one
abbrev pub lesser : ℕ → Option ℕ → ℕ
lesser n None = n
lesser n (Some m) = cond (nat_le n m) n m

-- the least of the numbers above k
abbrev pub least_above : ℕ → List ℕ → Option ℕ
least_above k [] = None
least_above k (n ∷ ns) = cond (nat_lt k n) (Some (lesser n (least_above k ns))) (least_above k ns)

-- the least pending stage above k that marks one of the elements as removed
abbrev pub next_removal_above : {U : Type 0} → ℕ → List (TreeElement U) → Option ℕ
next_removal_above k xs = least_above k (flat_map (λ e. filter_map stage_of e.stamps.dels) xs)

-- the pending stages of which a leaf has something
abbrev pub stages_on : {C : Type 0} → TreeLeaf C → List ℕ
stages_on x = filter_map stage_of (x.stamps.ins ∷ x.stamps.dels) ++ map (λ c. c.0) x.overlay.pending

-- the least pending stage above k of which a leaf has something
abbrev pub next_pending_above : {C : Type 0} → ℕ → List (ℕ × TreeLeaf C) → Option ℕ
next_pending_above k xs = least_above k (flat_map (λ x. stages_on x.1) xs)

-- the reference of this number goes on by this change, and each other one stays
abbrev pub ChangesReference : ℕ → (Reference → Option Reference) → List (ℕ × Reference) → List (ℕ × Reference) → Type 0
ChangesReference r f old new = (x : ℕ) → reference_at new x ≡ cond (nat_eq x r) (option_and_then f (reference_at old x)) (reference_at old x)

-- no reference stands on an element of the leaf of this node
abbrev pub IsFreeOf : {C U : Type 0} → (C → List U) → (C → Option Stamp) → List (ℕ × TreeLeaf C) → ℕ → List (ℕ × Reference) → Type 0
IsFreeOf units by xs id refs =
    let i = length (elements units by (left_of xs id)) in
    let n = length (elements units by (leaf_at xs id)) in
    (r j : ℕ) → reference_place refs r ≡ Some j → (nat_le i j && nat_lt j (i + n)) ≡ false
