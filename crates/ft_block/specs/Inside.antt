-- How `Blocks` keeps its leaves. No public clause cites this module.
use Rattle.std.specs.Prelude.{ℕ, ◌-◌, ◌^◌, ◌<◌, ◌≤◌, List, [], ◌∷◌, Option, Some, None, IsTrue, ◌≡◌}
use Rattle.ft_base.specs.declared.elements.Element.{Element}
use Rattle.ft_arena.specs.Forest.{Forest, leaf_value}
use Rattle.ft_shape.specs.declared.headed.Headed.{Headed}
use Rattle.ft_block.specs.declared.summaries.Summary.{Summary}
use Rattle.ft_block.specs.declared.blocks.Blocks.TheInside.{Inside}
use Rattle.ft_block.specs.Leaves.{LeafList}
use Rattle.ft_shape.specs.Tree.{IsTree, IsBare, height_of, length_of, total}
use Rattle.ft_block.specs.Tree.{SumsKeptBut, AreFromFloor, by_size}

module _ {L : Type 0} where
  abbrev pub pair_of : ℕ → Option L → List (ℕ × L) → List (ℕ × L)
  pair_of id None rest = rest
  pair_of id (Some v) rest = (id, v) ∷ rest

  -- the leaves of these nodes, with their values
  abbrev pub pairs_of : Forest L (Headed Summary) → List ℕ → List (ℕ × L)
  pairs_of s [] = []
  pairs_of s (id ∷ ids) = pair_of id (leaf_value s id) (pairs_of s ids)

  abbrev pub depth_of : Forest L (Headed Summary) → Option ℕ → ℕ
  depth_of s None = 0
  depth_of s (Some root) = height_of s root - 1

  abbrev pub view_of : {Change : Type 0} → Inside L Change → LeafList L
  view_of a = record { leaves = pairs_of a.arena a.arena.leaves; depth = depth_of a.arena a.root; floor = a.floor; usable = a.usable }

  -- a tree with this root, or nothing where there is no root
  abbrev pub IsRooted : Forest L (Headed Summary) → Option ℕ → Type 0
  IsRooted s None = IsBare s
  IsRooted s (Some root) = IsTree s root

  -- a tree whose blocks keep their lengths in the local view and for each perspective from the floor up, each of whose
  -- leaves has an element, and whose leaves together have fewer than 2 ^ 64
  pub record IsSound (size : L → ℕ) (element : L → Element) (floor : ℕ) (s : Forest L (Headed Summary)) (root : Option ℕ) : Type 0 where
    pub rooted : IsRooted s root
    pub sums : SumsKeptBut size element floor s None
    pub floors : AreFromFloor floor s
    pub filled : (id : ℕ) (v : L) → leaf_value s id ≡ Some v → 1 ≤ size v
    pub fits : total (length_of (by_size size) s) s.leaves < 2 ^ 64

  -- the same where the blocks may still be used
  abbrev pub IsSoundIfUsable : {Change : Type 0} → (L → ℕ) → (L → Element) → Inside L Change → Type 0
  IsSoundIfUsable size element a = IsTrue a.usable → IsSound size element a.floor a.arena a.root
