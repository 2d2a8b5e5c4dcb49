use Rattle.ft_refs.specs.RefLists.{references_of}
use Rattle.ft_refs.proofs.LoopLemmas.{Splits, count_from}
use Rattle.ft_refs.proofs.refs.Refs.split_list.Given as goal

abbrev pub invariant-refs : goal.invariant-refs
invariant-refs l = Splits l.fn.self l.self l.fn.from l.at l.to l.ahead

abbrev pub decreases-refs : goal.decreases-refs
decreases-refs l = count_from l.ahead (references_of l.self l.fn.from)
