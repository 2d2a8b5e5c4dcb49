use Rattle.std.proofs.Common.{◌∙◌, sym}
use Rattle.ft_client.proofs.AckedWhole.{next-off}
use Rattle.ft_client.proofs.own.acks.drop_front.Goals as goal

pub loop-i-preserved : goal.loop-i-preserved
loop-i-preserved c =
    sym (next-off c.args.stages.now.items c.loop-i._i c.take_next.result c.take_next.new.stages.items (sym c.loop-i.invariant ∙ c.take_next.ensures))
