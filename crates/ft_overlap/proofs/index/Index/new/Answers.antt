use Rattle.std.proofs.Common.{◌≡◌, Some, None, ap, sym, ◌∙◌}
use Rattle.ft_arena.specs.Forest.{block_of_entry}
use Rattle.ft_overlap.proofs.KeyedLeaves.{keyed_empty}
use Rattle.ft_overlap.proofs.index.Index.new.Goals as goal

pub invariant_of-result : goal.invariant_of-result
invariant_of-result c =
    record {
      rooted = record { forest = c.new.ensures.sound; leaves = c.new.ensures.leaves; nodes = c.new.ensures.nodes };
      names = λ id v e _. let n : None ≡ Some v = sym (ap block_of_entry (c.new.ensures.nodes id)) ∙ e in cc n;
      keyed = keyed_empty c.new.result c.new-2.result c.new.ensures.nodes c.new-2.ensures.empty;
    }
