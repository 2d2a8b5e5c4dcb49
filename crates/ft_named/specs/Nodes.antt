-- Which leaves of a tree keep their nodes in a reconnection.
use Rattle.std.specs.Prelude.{◌≡◌, ℕ, List, filter, map}
use Rattle.ft_tree_leaves.specs.declared.leaves.TreeLeaf.{TreeLeaf}
use Rattle.ft_rebase.specs.Moves.{leaf_stamps}
use Rattle.ft_rebase.specs.Normalised.{carried_pair}
use Rattle.ft_rebase.specs.StageLists.{sequenced}

-- each leaf whose insertion is sequenced keeps its node, and they keep their order; nothing else of them changes, but for what is
-- pending on one with a sequenced removal, which goes
abbrev pub KeepsNodes : {C : Type 0} → List (ℕ × TreeLeaf C) → List (ℕ × TreeLeaf C) → Type 0
KeepsNodes old new = filter (sequenced leaf_stamps) new ≡ map carried_pair (filter (sequenced leaf_stamps) old)
