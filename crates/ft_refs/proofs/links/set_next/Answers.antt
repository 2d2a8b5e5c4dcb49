use Rattle.ft_refs.proofs.ListLemmas.{sets_next}
use Rattle.ft_refs.proofs.links.set_next.Goals as goal

pub returns-in-Some : goal.returns-in-Some
returns-in-Some c = rw (← c.in-Some.ensures) (sets_next c.args.slots.now c.args.first.now c.args.to c.in-Some.r c.index_mut.result.now c.index_mut.ensures.value)
