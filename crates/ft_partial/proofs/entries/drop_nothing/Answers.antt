use Rattle.ft_partial.proofs.EntryLemmas.{drops_none}
use Rattle.ft_partial.proofs.entries.drop_nothing.Goals as goal

pub returns-then-len-eq0 : goal.returns-then-len-eq0
returns-then-len-eq0 c = drops_none _ _ c.requires
