use Rattle.std.proofs.Common.{[]}
use Rattle.ft_op.specs.Document.{empty}
use Rattle.ft_msg.proofs.ReplicaStarts.{reached-empty}
use Rattle.ft_replay.proofs.Observing.{starts-observing}
use Rattle.ft_replay.proofs.observer.ObserverListener.start.Goals as goal

pub returns-clause-first : goal.returns-clause-first
returns-clause-first g c = starts-observing c.new.result [] (g.R.Replica.state c.in_ok-replica.replica) empty 0 c.new.ensures c.in_ok-replica.ensures reached-empty
