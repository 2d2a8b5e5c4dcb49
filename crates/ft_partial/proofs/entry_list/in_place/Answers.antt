use Rattle.ft_partial.proofs.EntryLemmas.{drops_single}
use Rattle.ft_partial.proofs.entry_list.in_place.Goals as goal

pub returns-then-one-eq0 : goal.returns-then-one-eq0
returns-then-one-eq0 c = drops_single c.args.one c.if-one-eq0.true
