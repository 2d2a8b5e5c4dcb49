-- A sweep over a tree from leaf to leaf, as the loop does it. No public clause cites this module.
use Rattle.std.specs.Prelude.{◌≡◌, ℕ, ◌-◌, Bool, true, false, cond, nat_eq, List, [], ◌∷◌, ◌++◌, Option, Some, None, IfSome, length, map, take, drop}
use Rattle.ft_arena.specs.Ids.{first}
use Rattle.ft_base.specs.declared.stamps.Stamp.{Stamp}
use Rattle.ft_block.specs.Leaves.{ids, join_leaf, value_at, without_leaf}
use Rattle.ft_tree_blocks.specs.Walks.{before_place, from_place}
use Rattle.ft_tree_leaves.specs.declared.leaves.TreeLeaf.{TreeLeaf}
use Rattle.ft_tree_leaves.specs.declared.references.Reference.{Reference}
use Rattle.ft_tree_leaves.specs.Edits.{IsFreeOf, MayJoinNext, closed_by, joined_leaf, sweep_joined, sweep_without, with_place}
use Rattle.ft_tree_leaves.specs.Elements.{TreeElement}
use Rattle.ft_tree_leaves.specs.LeafLists.{elements}
use Rattle.ft_tree_leaves.specs.References.{ChangesReferences, KeepsReferences}
use Rattle.ft_tree.specs.State.{TreeState}
use Rattle.ft_zamboni.specs.declared.sweeps.Reached.{Reached}
use Rattle.ft_zamboni.specs.Scours.{Writes, collected, is_collectable, looked_at, marked, next_sweep, place_among, staying, swept, unmarked}

-- a place, or none where it is that of the end
abbrev pub short_of : Option ℕ → Option ℕ → Option ℕ
short_of None end = None
short_of (Some id) None = Some id
short_of (Some id) (Some end) = cond (nat_eq id end) None (Some id)

-- the node at which a sweep begins: that of its place, or the first
abbrev pub start : {L : Type 0} → List (ℕ × L) → Option ℕ → Option ℕ
start xs None = first (ids xs)
start xs (Some id) = Some id

-- where the next sweep begins: where the first way of two came, if it used up the budget
abbrev pub next_start : Reached → Reached → Option ℕ
next_start ahead around = cond (nat_eq ahead.left 0) ahead.next around.next

-- the node of the last leaf
abbrev pub last_node : {L : Type 0} → List (ℕ × L) → Option ℕ
last_node [] = None
last_node (x ∷ []) = Some x.0
last_node (x ∷ y ∷ xs) = last_node (y ∷ xs)

-- the tree may be used, from the same floor, and as many elements were ever made
pub record Goes {C : Type 0} (old now : TreeState C) : Type 0 where
  pub floor : now.floor ≡ old.floor
  pub made : now.made ≡ old.made
  pub usable : now.usable ≡ true

module _ {C U : Type 0} (units : C → List U) (by : C → Option Stamp) where
  -- where a leaf was removed at or below the floor, no reference is on it
  abbrev pub IsFreeIfCollectable : ℕ → List (ℕ × TreeLeaf C) → ℕ → List (ℕ × Reference) → Type 0
  IsFreeIfCollectable floor xs id refs = IfSome (value_at xs id) (λ x. is_collectable floor x.stamps ≡ true → IsFreeOf units by xs id refs)

  module _ (joins : C → C → Bool) (joined : C → C → C) where
    -- a sweep looks at the leaf of a node, where it kept the one before it last: it takes it, joins it to that one, or keeps it
    pub data Looks (old now : TreeState C) (id : ℕ) : Option ℕ → Option ℕ → List C → List C → Type 0 where
      took : {last : Option ℕ} {given : List C} {x : TreeLeaf C} → value_at old.leaves id ≡ Some x
          → is_collectable old.floor x.stamps ≡ true
          → now.leaves ≡ without_leaf old.leaves id
          → ChangesReferences (with_place (closed_by units by old.leaves id)) old.refs now.refs
          → now.sweep ≡ sweep_without old.leaves id old.sweep
          → Looks old now id last last given (given ++ (x.content ∷ []))
      merged : {last : ℕ} {given : List C} {x : TreeLeaf C} → value_at old.leaves id ≡ Some x
          → is_collectable old.floor x.stamps ≡ false
          → MayJoinNext joins old.floor old.leaves last
          → now.leaves ≡ join_leaf (joined_leaf joined) old.leaves last
          → KeepsReferences old.refs now.refs
          → now.sweep ≡ sweep_joined old.leaves last old.sweep
          → Looks old now id (Some last) (Some last) given given
      stayed : {last : Option ℕ} {given : List C} {x : TreeLeaf C} → value_at old.leaves id ≡ Some x
          → is_collectable old.floor x.stamps ≡ false
          → now.leaves ≡ old.leaves
          → KeepsReferences old.refs now.refs
          → now.sweep ≡ old.sweep
          → Looks old now id last (Some id) given given

  -- the elements of leaves before, of such that were looked at, and of those behind, each with whether it goes
  abbrev pub seen_marks : ℕ → List (ℕ × TreeLeaf C) → List (ℕ × TreeLeaf C) → List (ℕ × TreeLeaf C) → List (Bool × TreeElement U)
  seen_marks floor before seen behind =
      map unmarked (elements units by before) ++ (map (marked floor) (elements units by seen) ++ map unmarked (elements units by behind))

  -- a sweep has looked at leaves behind those before, and those to be looked at and the rest stand behind them as they did
  pub record Sweeps (old now : TreeState C) (before seen ahead rest : List (ℕ × TreeLeaf C)) (last : Option ℕ) (given taken : List C)
      : Type 0 where
    pub kept : List (ℕ × TreeLeaf C)
    pub old_is : old.leaves ≡ before ++ (seen ++ (ahead ++ rest))
    pub now_is : now.leaves ≡ before ++ (kept ++ (ahead ++ rest))
    pub last_is : last ≡ last_node kept
    pub writes : Writes old.floor (elements units by kept) (staying (map (marked old.floor) (elements units by seen)))
    pub refs : ChangesReferences (with_place (place_among (seen_marks old.floor before seen (ahead ++ rest)))) old.refs now.refs
    pub taken_is : taken ≡ given ++ collected old.floor seen
    pub sweep : old.sweep ≡ first (ids (seen ++ (ahead ++ rest))) → now.sweep ≡ first (ids (kept ++ (ahead ++ rest)))
    pub goes : Goes old now

  -- a sweep began at the leaf of a node and was to end before that of another, and came so far
  pub record SweptUpTo (old now : TreeState C) (from end : Option ℕ) (budget : ℕ) (given taken : List C) (reached : Reached) : Type 0 where
    pub last : Option ℕ
    pub sweeps : Sweeps old now (before_place old.leaves from) (take budget (before_place (from_place old.leaves from) end))
        (drop budget (before_place (from_place old.leaves from) end)) (from_place (from_place old.leaves from) end) last given taken
    pub next_is : reached.next ≡ first (ids (drop budget (before_place (from_place old.leaves from) end)))
    pub left_is : reached.left ≡ budget - length (before_place (from_place old.leaves from) end)

  -- a sweep looked at so many leaves, from its place on and then from the head on
  pub record Rounds (budget : ℕ) (old now : TreeState C) (before_taken after_taken : List C) : Type 0 where
    pub list : Writes old.floor (elements units by now.leaves) (staying (swept units by old.floor budget old.leaves old.sweep))
    pub taken : after_taken ≡ before_taken ++ collected old.floor (looked_at budget old.leaves old.sweep)
    pub refs : ChangesReferences (with_place (place_among (swept units by old.floor budget old.leaves old.sweep))) old.refs now.refs
    pub sweep : now.sweep ≡ next_sweep budget old.leaves old.sweep
    pub goes : Goes old now
