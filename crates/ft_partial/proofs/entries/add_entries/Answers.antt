use Rattle.std.proofs.Common.{arith}
use Rattle.ft_partial.proofs.EntryLemmas.{no_entry, added_more}
use Rattle.ft_partial.proofs.entries.add_entries.Goals as goal

pub loop-i-preserved : goal.loop-i-preserved
loop-i-preserved c = record {
  adds = added_more _ _ _ c.args.more.now c.loop-i.i no_entry c.loop-i-test.true c.add_entry.ensures.number c.loop-i.invariant.adds c.add_entry.ensures.adds;
  room = omega (arith, c.loop-i.invariant.room, c.add_entry.ensures.len, c.add_entry.ensures.capacity, c.loop-i-test.true);
}
