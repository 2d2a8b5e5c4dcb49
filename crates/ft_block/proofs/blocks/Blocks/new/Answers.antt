use Rattle.std.proofs.Common.{◌≡◌, Some, None, ap, sym, ◌∙◌, arith}
use Rattle.ft_arena.specs.Forest.{block_of_entry, leaf_of_entry}
use Rattle.ft_shape.specs.Tree.{IsBare, length_of, total}
use Rattle.ft_block.specs.Tree.{by_size, by_view}
use Rattle.ft_shape.proofs.UnlinkLemmas.{bare_sums}
use Rattle.ft_block.proofs.blocks.Blocks.new.Goals as goal

pub invariant_of-result : goal.invariant_of-result
invariant_of-result g c = λ _.
    let s = c.new.result in
    let bare : IsBare s = record { forest = c.new.ensures.sound; leaves = c.new.ensures.leaves; nodes = c.new.ensures.nodes } in
    record {
      rooted = bare;
      sums = λ view _. bare_sums (by_view g.L.Leaf.size g.L.Leaf.element view) s bare;
      floors = λ id v e. let n : None ≡ Some v = sym (ap block_of_entry (c.new.ensures.nodes id)) ∙ e in cc n;
      filled = λ id v e. let n : None ≡ Some v = sym (ap leaf_of_entry (c.new.ensures.nodes id)) ∙ e in cc n;
      fits = omega (arith, ap (total (length_of (by_size g.L.Leaf.size) s)) c.new.ensures.leaves);
    }
