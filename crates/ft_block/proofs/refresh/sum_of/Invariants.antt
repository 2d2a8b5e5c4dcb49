use Rattle.std.proofs.Common.{◌≡◌, ◌≤◌, ◌+◌, ◌-◌, length, drop}
use Rattle.ft_block.specs.declared.leaves.View.{View}
use Rattle.ft_shape.specs.Tree.{total, length_of}
use Rattle.ft_block.specs.Tree.{by_view, kept_length, KeepsLengths, HasRange}
use Rattle.ft_block.proofs.refresh.sum_of.Given as goal

abbrev pub invariant-loop-kid : goal.invariant-loop-kid
invariant-loop-kid g l =
    record {
      few : length l.kids ≤ 8;
      floor : l.sum.table.floor ≡ l.floor;
      low : HasRange l.sum;
      so_far : (view : View) → KeepsLengths l.floor view
          → kept_length view l.sum + total (length_of (by_view g.L.Leaf.size g.L.Leaf.element view) l.arena) (drop l.i l.kids) ≡ total
          (length_of (by_view g.L.Leaf.size g.L.Leaf.element view) l.arena) l.kids;
    }

abbrev pub decreases-loop-kid : goal.decreases-loop-kid
decreases-loop-kid g l = length l.kids - l.i
