use Rattle.std.proofs.Common.{◌∙◌}
use Rattle.ft_refs.proofs.ListLemmas.{next_is}
use Rattle.ft_refs.proofs.refs.Refs.next.Goals as goal

pub returns-in-Some : goal.returns-in-Some
returns-in-Some c = rw (← c.self.view_is, ← c.r.view_is) (c.wrap.ensures ∙ next_is c.self.inside.slots c.self.inside.ends.items c.r.inside.0 c.index-slot.result.now c.in-Some.field-0 c.self.invariant c.index-slot.ensures c.in-Some.is)
