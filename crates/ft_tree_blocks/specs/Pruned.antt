-- Lists of what each pending stage touched, of which each node has something of its stage. No public clause cites this module.
use Rattle.std.specs.Prelude.{ℕ, List, All, filter, map}
use Rattle.ft_block.specs.Leaves.{IsLeafIn}
use Rattle.ft_tree_leaves.specs.declared.leaves.TreeLeaf.{TreeLeaf}
use Rattle.ft_tree_blocks.specs.declared.next_stages.Wanted.TheVariants.{Anything}
use Rattle.ft_tree_blocks.specs.Touched.{NodesOfStage, is_some_node}
use Rattle.ft_tree_blocks.specs.Wanted.{is_wanted_at}

module _ {C : Type 0} (leaves : List (ℕ × TreeLeaf C)) where
  -- each node of the lists is a leaf's
  abbrev pub AreLeaves : List NodesOfStage → Type 0
  AreLeaves ss = All (λ (s : NodesOfStage). All (λ id. IsLeafIn leaves id) s.nodes) ss

  -- the list with those nodes alone whose leaf has something of its stage
  abbrev pub pruned : NodesOfStage → NodesOfStage
  pruned s = record s { nodes = filter (is_wanted_at Anything leaves s.stage) s.nodes }

  -- all lists so, and those without any node go
  abbrev pub all_pruned : List NodesOfStage → List NodesOfStage
  all_pruned ss = filter (λ s. is_some_node s.nodes) (map pruned ss)
