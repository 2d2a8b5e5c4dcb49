-- How `LeafBlocks` keeps its leaves. No public clause cites this module.
use Rattle.std.specs.Prelude.{IsTrue, List, Option}
use Rattle.ft_base.specs.declared.stamps.Stamp.{Stamp}
use Rattle.ft_tree_blocks.specs.Anchors.{references_on}
use Rattle.ft_tree_blocks.specs.declared.leaf_blocks.LeafBlocks.TheInside.{Inside}
use Rattle.ft_tree_blocks.specs.State.{TrackedLeaves}
use Rattle.ft_tree_blocks.specs.Touched.{Tracks}
use Rattle.ft_tree_blocks.specs.Unsettled.{IsSoundOn}

module _ {C U : Type 0} where
  abbrev pub view_of : (C → List U) → (C → Option Stamp) → Inside C U → TrackedLeaves C
  view_of units by a = record {
    leaves = a.blocks.leaves;
    depth = a.blocks.depth;
    floor = a.blocks.floor;
    refs = references_on units by a.blocks.leaves a.refs.anchors;
    usable = a.usable;
  }

  -- the blocks may be used, the lists are right, and so are the references
  pub record IsSound (units : C → List U) (a : Inside C U) : Type 0 where
    pub blocks : IsTrue a.blocks.usable
    pub tracks : Tracks a.blocks.leaves a.touched.items
    pub refs : IsSoundOn units a.blocks.leaves a.refs.anchors a.refs.unsettled.items

  -- the same where they may still be used
  abbrev pub IsSoundIfUsable : (C → List U) → Inside C U → Type 0
  IsSoundIfUsable units a = IsTrue a.usable → IsSound units a
