use Rattle.std.proofs.Common.{arith}
use Rattle.ft_gen.proofs.Drawing.{state_after-more}
use Rattle.ft_gen.proofs.draws.skip.Goals as goal

pub loop-i-preserved : goal.loop-i-preserved
loop-i-preserved c =
    let l = c.loop-i in
    let more = state_after-more c.args.count l._i l.state (omega arith) in
    record { within = omega arith; left = cc }
