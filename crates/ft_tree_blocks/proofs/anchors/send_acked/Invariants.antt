use Rattle.ft_refs.specs.RefLists.{references_of}
use Rattle.ft_refs.proofs.LoopLemmas.{count_from}
use Rattle.ft_tree_blocks.proofs.SentReferences.{Sends}
use Rattle.ft_tree_blocks.proofs.anchors.send_acked.Given as goal

abbrev pub invariant-loop-ahead : goal.invariant-loop-ahead
invariant-loop-ahead l = Sends l.acked l.fn.from l.to l.fn.refs l.refs l.ahead

abbrev pub decreases-loop-ahead : goal.decreases-loop-ahead
decreases-loop-ahead l = count_from l.ahead (references_of l.refs l.fn.from)
