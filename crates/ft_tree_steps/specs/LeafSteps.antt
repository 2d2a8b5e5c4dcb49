-- What steps make of lists of leaves, as a walk from leaf to leaf goes along them.
use Rattle.std.specs.Prelude.{◌≡◌, ℕ, ◌+◌, ◌≤◌, cond, Bool, List, ◌++◌, Option, Some, None, IsSomeAnd, length, map, take, drop}
use Rattle.ft_arena.specs.Ids.{after}
use Rattle.ft_base.specs.declared.stamps.Stamp.{Stamp}
use Rattle.ft_base.specs.Scan.{len, place}
use Rattle.ft_block.specs.Leaves.{IsLeafIn, IsPlaceIn, ids, left_of, value_at}
use Rattle.ft_tree_leaves.specs.declared.leaves.TreeLeaf.{TreeLeaf}
use Rattle.ft_tree_leaves.specs.Edits.{up_to_place}
use Rattle.ft_tree_leaves.specs.Elements.{TreeElement}
use Rattle.ft_tree_leaves.specs.LeafLists.{Extends, elements, leaf_elements, pending_leaves}
use Rattle.ft_tree_blocks.specs.Walks.{before_place, from_leaf, from_place, node_behind}

-- f of each seen element up to the n-th seen one; the others as they are
abbrev pub change_front : {A : Type 0} → (A → Bool) → (A → A) → ℕ → List A → List A
change_front seen f n xs = map (λ x. cond (seen x) (f x) x) (take (place seen n xs) xs) ++ drop (place seen n xs) xs

-- a leaf that was found holds so many elements, or there is none at the head
abbrev pub IsInLeaf : {C U : Type 0} → (C → List U) → List (ℕ × TreeLeaf C) → Option ℕ → ℕ → Type 0
IsInLeaf units xs None n = n ≡ 0
IsInLeaf units xs (Some id) n = IsSomeAnd (value_at xs id) (λ v. (1 ≤ n) × (n ≤ length (units v.content)))

module _ {C U : Type 0} (units : C → List U) (by : C → Option Stamp) where
  -- how many elements stand up to a place in a leaf
  abbrev pub held_place : List (ℕ × TreeLeaf C) → Option ℕ → ℕ → ℕ
  held_place xs None n = 0
  held_place xs (Some id) n = length (elements units by (left_of xs id)) + n

  -- a leaf ends behind the first n elements; one may have been cut for it
  pub record CutsBehind (n : ℕ) (old now : List (ℕ × TreeLeaf C)) (at : Option ℕ) : Type 0 where
    pub list : elements units by now ≡ elements units by old
    pub place : length (elements units by (up_to_place now at)) ≡ n
    pub nodes : Extends (ids old) (ids now)
    pub live : IsPlaceIn now at
    pub pending : pending_leaves (from_place now (node_behind now at)) ≤ pending_leaves old

  -- the elements with this change of the first n that are seen from the leaf of this node on
  abbrev pub changed_behind : (TreeElement U → Bool) → (TreeElement U → TreeElement U) → List (ℕ × TreeLeaf C) → Option ℕ → ℕ → List (TreeElement U)
  changed_behind seen f xs at n = elements units by (before_place xs at) ++ change_front seen f n (elements units by (from_place xs at))

  -- the leaves have one more, behind the first n elements
  pub record PutsBehind (n : ℕ) (leaf : TreeLeaf C) (old now : List (ℕ × TreeLeaf C)) : Type 0 where
    pub list : elements units by now ≡ take n (elements units by old) ++ (leaf_elements units by leaf ++ drop n (elements units by old))
    pub nodes : Extends (ids old) (ids now)

  -- f is what g makes of each element of a leaf
  abbrev pub Acts : (TreeLeaf C → TreeLeaf C) → (TreeElement U → TreeElement U) → Type 0
  Acts g f = (x : TreeLeaf C) → leaf_elements units by (g x) ≡ map f (leaf_elements units by x)

  -- the leaf of this node has n seen elements, no more than `left`; it may have been cut for that
  pub record CutsSeen (seen : TreeElement U → Bool) (left n : ℕ) (old now : List (ℕ × TreeLeaf C)) (id : ℕ) : Type 0 where
    pub value : TreeLeaf C
    pub is : value_at now id ≡ Some value
    pub count : n ≡ len seen (leaf_elements units by value)
    pub few : n ≤ left
    pub before : elements units by (left_of now id) ≡ elements units by (left_of old id)
    pub behind : elements units by (from_leaf now id) ≡ elements units by (from_leaf old id)
    pub nodes : Extends (ids old) (ids now)

  -- a walk goes from the leaf of this node, which may have been cut, to the next one, and passes the elements `es`
  pub record GoesBehind (old now : List (ℕ × TreeLeaf C)) (id : ℕ) : Type 0 where
    pub es : List (TreeElement U)
    pub some : 1 ≤ length es
    pub whole : es ++ elements units by (from_place now (after (ids now) id)) ≡ elements units by (from_leaf old id)
    pub live : IsLeafIn now id
    pub nodes : Extends (ids old) (ids now)
