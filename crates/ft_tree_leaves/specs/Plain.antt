-- What the steps of a tree make of its leaves. No call of a tree cites this module.
use Rattle.std.specs.Prelude.{◌≡◌, ◌≢◌, ℕ, ◌≤◌, Bool, ◌&&◌, List, Option, length, map}
use Rattle.ft_base.specs.declared.stamps.Stamp.{Stamp}
use Rattle.ft_block.specs.Leaves.{ids, times_leaf}
use Rattle.ft_tree_leaves.specs.declared.leaves.TreeLeaf.{TreeLeaf}
use Rattle.ft_tree_leaves.specs.Elements.{TreeElement, acked_element, is_pending}
use Rattle.ft_tree_leaves.specs.LeafLists.{elements}

-- whether an insertion passes the element: where it stands past pending ones and this is one
abbrev pub passes : {U : Type 0} → Bool → TreeElement U → Bool
passes past e = past && is_pending e

module _ {C U : Type 0} (units : C → List U) (by : C → Option Stamp) where
  -- stage k is acknowledged under number s of connection c
  pub record Acks (k s c : ℕ) (author : Option Stamp) (old now : List (ℕ × TreeLeaf C)) : Type 0 where
    pub list : elements units by now ≡ map (acked_element k s c author) (elements units by old)
    pub nodes : ids now ≡ ids old
    pub times : (id : ℕ) → times_leaf now id ≡ times_leaf old id

  -- the leaves without that of a node, whose elements another may have got
  pub record WithoutNode (id : ℕ) (old now : List (ℕ × TreeLeaf C)) : Type 0 where
    pub others : (z : ℕ) → z ≢ id → times_leaf now z ≡ times_leaf old z
    pub gone : times_leaf now id ≡ 0
    pub fewer : length (elements units by now) ≤ length (elements units by old)
