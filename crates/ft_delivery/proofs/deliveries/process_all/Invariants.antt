-- a client that processes all entries processes the rest of them, and is what all make of it
use Rattle.std.proofs.Common.{drop}
use Rattle.ft_delivery.proofs.InOrder.{StillProcesses}
use Rattle.ft_delivery.proofs.deliveries.process_all.Given as goal

abbrev pub invariant-loop-entry : goal.invariant-loop-entry
invariant-loop-entry g l = StillProcesses (g.R.Replica.state l.initial.replica) (g.R.Replica.state l.replica) l.entries
    (drop l.entry-index l.entries)
