-- What compaction makes of a tree: which leaves it looks at, which elements go, and where references and the next sweep are
-- then.
use Rattle.std.specs.Prelude.{◌≡◌, ℕ, ◌-◌, Bool, true, false, cond, not, nat_le, List, [], ◌∷◌, ◌++◌, Option, Some, None, IfSome, slice_get, length, map, filter, take, drop}
use Rattle.ft_arena.specs.Ids.{first}
use Rattle.ft_base.specs.declared.stamps.Stamp.{Stamp}
use Rattle.ft_base.specs.declared.elements.Element.{Element as ElementStamps}
use Rattle.ft_base.specs.Scan.{retain_map}
use Rattle.ft_block.specs.Leaves.{ids, left_of}
use Rattle.ft_tree_blocks.specs.Walks.{from_leaf}
use Rattle.ft_tree_leaves.specs.declared.leaves.TreeLeaf.{TreeLeaf}
use Rattle.ft_tree_leaves.specs.declared.references.Reference.{Reference}
use Rattle.ft_tree_leaves.specs.Elements.{TreeElement, universal_stamps, with_stamps}
use Rattle.ft_tree_leaves.specs.LeafLists.{elements}
use Rattle.ft_tree_leaves.specs.Places.{seen_before}
use Rattle.ft_tree_leaves.specs.References.{reference_place}
use Rattle.ft_props.specs.Compaction.{has_collectable_removal, is_insertion_at_or_below}

-- whether the first removal is at or below the floor
abbrev pub is_collectable : ℕ → ElementStamps → Bool
is_collectable floor e = has_collectable_removal floor e.dels

module _ {A : Type 0} where
  -- those of a list that aren't marked as going
  abbrev pub staying : List (Bool × A) → List A
  staying xs = retain_map (λ x. not x.0) (λ x. x.1) xs

  -- the place of one that stays after the marked ones are gone: less the number of those before it
  abbrev pub place_among : List (Bool × A) → ℕ → ℕ
  place_among xs i = i - seen_before (λ x. x.0) xs i

module _ {U : Type 0} where
  -- the elements as compaction may write them: insertions at or below the floor as the one that everybody sees
  pub data Writes (floor : ℕ) : List (TreeElement U) → List (TreeElement U) → Type 0 where
    none : Writes floor [] []
    same : {e : TreeElement U} {new old : List (TreeElement U)} → Writes floor new old → Writes floor (e ∷ new) (e ∷ old)
    universal : {e : TreeElement U} {new old : List (TreeElement U)} → is_insertion_at_or_below floor e.stamps.ins ≡ true
        → Writes floor new old → Writes floor (with_stamps universal_stamps e ∷ new) (e ∷ old)

  -- no reference is on an element that was removed at or below the floor
  abbrev pub AreClear : ℕ → List (TreeElement U) → List (ℕ × Reference) → Type 0
  AreClear floor es refs = (r i : ℕ) → reference_place refs r ≡ Some i → IfSome (slice_get es i) (λ e. is_collectable floor e.stamps ≡ false)

  -- an element with whether it goes where it is looked at
  abbrev pub marked : ℕ → TreeElement U → Bool × TreeElement U
  marked floor e = (is_collectable floor e.stamps, e)

  -- an element that nobody looks at
  abbrev pub unmarked : TreeElement U → Bool × TreeElement U
  unmarked e = (false, e)

module _ {L : Type 0} where
  -- the leaves to which a sweep comes first: from the place where it begins on, or all
  abbrev pub ahead : List (ℕ × L) → Option ℕ → List (ℕ × L)
  ahead xs None = xs
  ahead xs (Some id) = from_leaf xs id

  -- those to which it comes then, from the head on
  abbrev pub around : List (ℕ × L) → Option ℕ → List (ℕ × L)
  around xs None = []
  around xs (Some id) = left_of xs id

  -- how many of the latter it looks at
  abbrev pub left_over : ℕ → List (ℕ × L) → Option ℕ → ℕ
  left_over budget xs sweep = budget - length (ahead xs sweep)

  -- the leaves that it looks at, in that order
  abbrev pub looked_at : ℕ → List (ℕ × L) → Option ℕ → List (ℕ × L)
  looked_at budget xs sweep = take budget (ahead xs sweep) ++ take (left_over budget xs sweep) (around xs sweep)

  -- where the next one begins: at the first leaf behind those
  abbrev pub next_sweep : ℕ → List (ℕ × L) → Option ℕ → Option ℕ
  next_sweep budget xs sweep =
      cond (nat_le budget (length (ahead xs sweep))) (first (ids (drop budget (ahead xs sweep))))
      (first (ids (drop (left_over budget xs sweep) (around xs sweep))))

-- the contents of the leaves that were removed at or below the floor
abbrev pub collected : {C : Type 0} → ℕ → List (ℕ × TreeLeaf C) → List C
collected floor xs = map (λ x. x.1.content) (filter (λ x. is_collectable floor x.1.stamps) xs)

module _ {C U : Type 0} (units : C → List U) (by : C → Option Stamp) (floor : ℕ) where
  -- the elements of leaves, each with whether it goes where the first n of the leaves are looked at
  abbrev pub marks : ℕ → List (ℕ × TreeLeaf C) → List (Bool × TreeElement U)
  marks n xs = map (marked floor) (elements units by (take n xs)) ++ map unmarked (elements units by (drop n xs))

  -- the elements of all leaves, each with whether a sweep takes it out
  abbrev pub swept : ℕ → List (ℕ × TreeLeaf C) → Option ℕ → List (Bool × TreeElement U)
  swept budget xs sweep = marks (left_over budget xs sweep) (around xs sweep) ++ marks budget (ahead xs sweep)
