use Rattle.std.proofs.Common.{arith, take}
use Rattle.ft_partial.proofs.EntryLemmas.{up_to_before, unseen_none, unseen-cut}
use Rattle.ft_partial.proofs.entries.unseen.Goals as goal

pub returns-else-entries-i : goal.returns-else-entries-i
returns-else-entries-i c =
    let below = up_to_before c.args.at.r c.loop-i.i _ c.args.entries.now c.requires c.loop-i-test.true c.loop-i.invariant.inside c.if-entries-i.false in
    omega (
      arith,
      c.loop-i.invariant.sum,
      unseen-cut c.args.at.r c.args.at.c c.loop-i.i c.args.entries.now,
      unseen_none c.args.at.r c.args.at.c (take c.loop-i.i c.args.entries.now) below,
    )
