-- A search along the leaves that passes some of them.
use Rattle.std.specs.Prelude.{◌≡◌, ℕ, Bool, List, ◌++◌, Option}
use Rattle.ft_base.specs.declared.stamps.Stamp.{Stamp}
use Rattle.ft_base.specs.Scan.{len}
use Rattle.ft_tree_leaves.specs.declared.leaves.TreeLeaf.{TreeLeaf}
use Rattle.ft_tree_leaves.specs.Elements.{TreeElement}
use Rattle.ft_tree_leaves.specs.LeafLists.{elements}
use Rattle.ft_tree_blocks.specs.Walks.{before_place, from_place}

module _ {C U : Type 0} (units : C → List U) (by : C → Option Stamp) (ok : TreeElement U → Bool) where
  -- the search goes from the leaf of one node on to that of another, and passes elements of which none is ok
  pub record Skips (xs : List (ℕ × TreeLeaf C)) (from to : Option ℕ) : Type 0 where
    pub es : List (TreeElement U)
    pub none : len ok es ≡ 0
    pub before : elements units by (before_place xs to) ≡ elements units by (before_place xs from) ++ es
    pub rest : elements units by (from_place xs from) ≡ es ++ elements units by (from_place xs to)
