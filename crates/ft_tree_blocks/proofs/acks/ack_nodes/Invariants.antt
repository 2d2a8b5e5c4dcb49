use Rattle.std.proofs.Common.{◌≡◌, ℕ, IsTrue, Some, drop, map}
use Rattle.ft_block.specs.Leaves.{value_at}
use Rattle.ft_tree_leaves.specs.declared.leaves.TreeLeaf.{TreeLeaf}
use Rattle.ft_tree_leaves.specs.Elements.{IsLowestChange}
use Rattle.ft_tree_leaves.specs.LeafChanges.{acked_pair}
use Rattle.ft_tree_blocks.specs.Touched.{HaveAllOf}
use Rattle.ft_tree_blocks.proofs.acks.ack_nodes.Given as goal

-- each leaf is as before or acknowledged, and those that have something of the stage still are among the rest
abbrev pub invariant-loop-id : goal.invariant-loop-id
invariant-loop-id g l = record {
  acked : map (acked_pair g.C.Content.stamped l.stage l.seq l.conn) l.blocks.leaves
      ≡ map (acked_pair g.C.Content.stamped l.stage l.seq l.conn) l.initial.blocks.leaves;
  rest : HaveAllOf l.stage l.blocks.leaves (drop l.id-index l.nodes);
  lowest : (z : ℕ) (v : TreeLeaf g.row.C.Denot) → value_at l.blocks.leaves z ≡ Some v → IsLowestChange l.stage v.overlay;
  usable : IsTrue l.blocks.usable;
  floor : l.blocks.floor ≡ l.initial.blocks.floor;
}
