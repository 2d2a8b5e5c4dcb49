use Rattle.std.proofs.Common.{ap}
use Rattle.ft_partial.proofs.EntryLemmas.{added_nothing}
use Rattle.ft_partial.proofs.stages.Stages.put.Goals as goal

pub returns-then-count-eq0-clause-ok : goal.returns-then-count-eq0-clause-ok
returns-then-count-eq0-clause-ok c = added_nothing _ _ _ c.self.invariant.rising (ap (λ t. t.entries) c.self.view_is) c.if-count-eq0.true
