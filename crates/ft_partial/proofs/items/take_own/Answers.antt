use Rattle.std.proofs.Common.{take, refl}
use Rattle.ft_partial.specs.EntryLists.{entries_of}
use Rattle.ft_partial.proofs.ItemLemmas.{takes_more}
use Rattle.ft_partial.proofs.items.take_own.Goals as goal

pub loop-i-preserved : goal.loop-i-preserved
loop-i-preserved c =
    takes_more (entries_of c.args.entries.now) (entries_of c.loop-i.entries) (entries_of c.take_one.new.entries) c.args.seq c.args.by c.args.conn c.args.stamps.now
    (take c.loop-i.i c.args.stamps.now) c.loop-i.i _ c.loop-i-test.true refl c.loop-i.invariant c.in_ok-take_one.ensures
