use Rattle.ft_base.specs.declared.stamps.Stamp.TheVariants.{Acked}
use Rattle.ft_block.proofs.SettledLemmas.{gone_more}
use Rattle.ft_block.proofs.leaves.first_stage.Goals as goal

pub loop-stamp-preserved : goal.loop-stamp-preserved
loop-stamp-preserved c = λ k.
    gone_more k c.stage_of-stage.result c.earlier.result c.loop-stamp.first c.args.stamps.now c.loop-stamp.stamp-index (Acked 0 0) c.loop-stamp-test.true (c.earlier.ensures k)
    (c.stage_of-stage.ensures k) (c.loop-stamp.invariant k)
