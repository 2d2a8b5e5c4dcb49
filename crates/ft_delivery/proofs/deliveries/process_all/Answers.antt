-- One message, and then the others.
use Rattle.std.proofs.Common.{◌+◌, drop, subst}
use Rattle.std.proofs.lemmas.List.{drop_all}
use Rattle.ft_delivery.proofs.InOrder.{StillProcesses, all-processed, still-can, still-processes}
use Rattle.ft_delivery.proofs.Rests.{rest-at}
use Rattle.ft_delivery.proofs.deliveries.process_all.Goals as goal

pub process_one-requires : goal.process_one-requires
process_one-requires g c = still-can (g.R.Replica.state c.args.replica.now) (g.R.Replica.state c.loop-entry.replica) c.args.entries.now
    c.entry-item.result (drop (c.loop-entry.entry-index + 1) c.args.entries.now)
    (subst (StillProcesses (g.R.Replica.state c.args.replica.now) (g.R.Replica.state c.loop-entry.replica) c.args.entries.now)
    (rest-at c.args.entries.now c.loop-entry.entry-index c.entry-item.result c.loop-entry-test.true c.entry-item.is) c.loop-entry.invariant)
    c.requires

pub loop-entry-preserved : goal.loop-entry-preserved
loop-entry-preserved g c = still-processes (g.R.Replica.state c.args.replica.now) (g.R.Replica.state c.loop-entry.replica) c.args.entries.now
    c.entry-item.result (drop (c.loop-entry.entry-index + 1) c.args.entries.now)
    (subst (StillProcesses (g.R.Replica.state c.args.replica.now) (g.R.Replica.state c.loop-entry.replica) c.args.entries.now)
    (rest-at c.args.entries.now c.loop-entry.entry-index c.entry-item.result c.loop-entry-test.true c.entry-item.is) c.loop-entry.invariant)
    (g.R.Replica.state c.process_one.new.replica)
    (λ x y p. c.in_ok-process_one.ensures.ok x y p) c.requires

pub returns-clause-ok : goal.returns-clause-ok
returns-clause-ok g c = all-processed (g.R.Replica.state c.args.replica.now) (g.R.Replica.state c.loop-entry.replica) c.args.entries.now
    (subst (StillProcesses (g.R.Replica.state c.args.replica.now) (g.R.Replica.state c.loop-entry.replica) c.args.entries.now)
    (drop_all c.loop-entry.entry-index c.args.entries.now c.loop-entry-test.false) c.loop-entry.invariant)
