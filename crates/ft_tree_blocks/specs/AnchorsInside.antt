-- How `Anchors` keeps its references. No public clause cites this module.
use Rattle.std.specs.Prelude.{ℕ, ◌<◌, IsSome, length}
use Rattle.ft_refs.specs.RefLists.{IsRefs, entry}
use Rattle.ft_tree_blocks.specs.Anchors.{AnchorLists}
use Rattle.ft_tree_blocks.specs.declared.anchors.Anchors.TheInside.{Inside}

abbrev pub view_of : Inside → AnchorLists
view_of a = record { refs = a.refs; acked = a.acked.items }

-- lists and places agree, and each live reference has a flag
pub record IsSound (a : Inside) : Type 0 where
  pub refs : IsRefs a.refs
  pub flags : (r : ℕ) → IsSome (entry a.refs r) → r < length a.acked.items
