use Rattle.std.proofs.Common.{ap}
use Rattle.std.specs.Prelude.{slice_set}
use Rattle.ft_arena.specs.Links.{next_changed}
use Rattle.ft_arena.proofs.SlotLemmas.{links_read}
use Rattle.ft_arena.proofs.links.set_next.Goals as goal

pub returns-in-Some-clause-links : goal.returns-in-Some-clause-links
returns-in-Some-clause-links c =
    let within = rw (← c.in-Some.ensures) at c.requires in
    rw (← c.in-Some.ensures) (ap (λ l. slice_set c.args.links.now.items c.in-Some.id (next_changed l c.args.to))
    (links_read c.args.links.now.items c.in-Some.id c.index_mut.result.now within c.index_mut.ensures.value))
