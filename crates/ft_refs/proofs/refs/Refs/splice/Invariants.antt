use Rattle.std.proofs.Common.{length}
use Rattle.ft_refs.specs.RefLists.{references_of}
use Rattle.ft_refs.proofs.LoopLemmas.{Splices}
use Rattle.ft_refs.proofs.refs.Refs.splice.Given as goal

abbrev pub invariant-refs : goal.invariant-refs
invariant-refs l = Splices l.fn.self l.self l.from l.to l.add

abbrev pub decreases-refs : goal.decreases-refs
decreases-refs l = length (references_of l.self l.from)
