use Rattle.std.proofs.Common.{arith}
use Rattle.ft_string.proofs.LoadedIntervals.{interval-added}
use Rattle.ft_string.proofs.summaries.apply_add.Goals as goal

pub apply-requires-clause-floor : goal.apply-requires-clause-floor
apply-requires-clause-floor c = let none = c.requires.floor in omega arith

pub returns-clause-adds : goal.returns-clause-adds
returns-clause-adds c i is fits =
    let e = c.in_ok-_fits.ensures in
    interval-added i c.args.op.now c.everybody.result c.args.tree.now c.apply.new.tree c.args.intervals.now.state c.apply.new.self.state c.in_ok-_fits._fits c.everybody.ensures
    is fits e.fits e.effect e.refs e.rest
