use Rattle.std.proofs.Common.{take}
use Rattle.ft_base.specs.declared.stamps.Stamp.TheVariants.{Acked}
use Rattle.ft_partial.proofs.ItemLemmas.{first_more}
use Rattle.ft_partial.proofs.items.first_removal.Goals as goal

pub loop-stamp-preserved : goal.loop-stamp-preserved
loop-stamp-preserved c =
    first_more c.args.dels.now c.loop-stamp.stamp-index (Acked 0 0) _ c.loop-stamp-test.true
    (c.earlier-first.ensures (take c.loop-stamp.stamp-index c.args.dels.now) c.loop-stamp.invariant)
