use Rattle.ft_refs.proofs.ListLemmas.{sets_prev}
use Rattle.ft_refs.proofs.links.set_prev.Goals as goal

pub returns-in-Some : goal.returns-in-Some
returns-in-Some c = rw (← c.in-Some.ensures) (sets_prev c.args.slots.now c.args.last.now c.args.to c.in-Some.r c.index_mut.result.now c.index_mut.ensures.value)
