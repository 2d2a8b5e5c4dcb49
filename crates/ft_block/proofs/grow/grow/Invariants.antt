use Rattle.std.proofs.Common.{◌≡◌, ◌≤◌, ◌<◌, ◌+◌, ◌-◌, ◌^◌, ℕ}
use Rattle.ft_arena.specs.Forest.{leaf_value, parent_of}
use Rattle.ft_arena.specs.Ids.{insert_after}
use Rattle.ft_block.specs.declared.leaves.View.{View}
use Rattle.ft_shape.specs.Tree.{IsGrowing, OwesAbove, height_of, length_of, total}
use Rattle.ft_block.specs.Tree.{SumsKeptBut, AreFromFloor, KeepsLengths, by_view, by_size}
use Rattle.ft_block.proofs.grow.grow.Given as goal

abbrev pub invariant-up : goal.invariant-up
invariant-up g l =
    record {
      growing : IsGrowing l.arena l.fn.root l.at l.id (λ xs. insert_after xs l.at l.id);
      sums : SumsKeptBut g.L.Leaf.size g.L.Leaf.element l.floor l.arena (parent_of l.arena l.at);
      owes : (view : View) (more less : ℕ) → KeepsLengths l.floor view
          → OwesAbove (by_view g.L.Leaf.size g.L.Leaf.element view) l.initial.arena l.fn.at (λ xs. insert_after xs l.fn.at l.fn.id) more less
          → OwesAbove (by_view g.L.Leaf.size g.L.Leaf.element view) l.arena l.at (λ xs. insert_after xs l.at l.id) more less;
      floors : AreFromFloor l.floor l.arena;
      spare : height_of l.arena l.fn.root - height_of l.arena l.at + 1 ≤ l.arena.spare;
      fits : total (length_of (by_size g.L.Leaf.size) l.arena) l.arena.leaves < 2 ^ 64;
      tall : height_of l.arena l.fn.root ≡ height_of l.initial.arena l.fn.root;
      leaves : l.arena.leaves ≡ l.initial.arena.leaves;
      leaf_values : (x : ℕ) → leaf_value l.arena x ≡ leaf_value l.initial.arena x;
    }

abbrev pub decreases-up : goal.decreases-up
decreases-up g l = height_of l.initial.arena l.fn.root - height_of l.arena l.at
