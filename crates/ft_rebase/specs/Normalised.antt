-- The list of a tree after a reconnection.
use Rattle.std.specs.Prelude.{ℕ, Bool, cond, ◌&&◌, List}
use Rattle.std.specs.List.{list_any}
use Rattle.ft_base.specs.declared.elements.Element.{Element as ElementStamps}
use Rattle.ft_base.specs.Scan.{retain_map}
use Rattle.ft_base.specs.Visibility.{is_acked}
use Rattle.ft_tree_leaves.specs.declared.leaves.TreeLeaf.{TreeLeaf}
use Rattle.ft_tree_leaves.specs.Edits.{is_touched_by, sequenced_leaf}
use Rattle.ft_tree_leaves.specs.Elements.{TreeElement, sequenced_overlay, sequenced_stamps}
use Rattle.ft_rebase.specs.StageLists.{sequenced, with_stages}

module _ {U : Type 0} where
  -- the element without its pending removal and pending changes
  abbrev pub without_pending : TreeElement U → TreeElement U
  without_pending e = record e { stamps = sequenced_stamps e.stamps; overlay = sequenced_overlay e.overlay }

  -- an element as it goes through a reconnection: what is pending on it goes where a removal of it is sequenced
  abbrev pub carried_element : TreeElement U → TreeElement U
  carried_element e = cond (list_any is_acked e.stamps.dels) (without_pending e) e

  -- the sequenced elements in their order, with those of the pending stages 1 to last put in afresh
  abbrev pub rebuilt_list : ℕ → List (TreeElement U) → List (TreeElement U)
  rebuilt_list last xs = with_stages (λ e. e.stamps) xs (retain_map (sequenced (λ e. e.stamps)) carried_element xs) last

  -- the element after what is pending was taken off it, where its insertion and a removal of it are sequenced
  abbrev pub unmarked_element : TreeElement U → TreeElement U
  unmarked_element e = cond (is_acked e.stamps.ins) (carried_element e) e

-- whether the insertion and a removal are sequenced
abbrev pub is_gone : ElementStamps → Bool
is_gone e = is_acked e.ins && list_any is_acked e.dels

-- a leaf as it goes through a reconnection: what is pending on it goes where its insertion and a removal of it are sequenced
abbrev pub carried_leaf : {C : Type 0} → TreeLeaf C → TreeLeaf C
carried_leaf x = cond (is_gone x.stamps) (sequenced_leaf x) x

-- the same with its node
abbrev pub carried_pair : {C : Type 0} → ℕ × TreeLeaf C → ℕ × TreeLeaf C
carried_pair x = (x.0, carried_leaf x.1)

-- the same where stage k has something of the leaf, and else the leaf as it is
abbrev pub carried_by : {C : Type 0} → ℕ → ℕ × TreeLeaf C → ℕ × TreeLeaf C
carried_by k x = cond (is_touched_by k x.1) (carried_pair x) x
