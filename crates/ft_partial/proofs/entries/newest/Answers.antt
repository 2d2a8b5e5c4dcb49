use Rattle.ft_partial.proofs.EntryLemmas.{up_to_last}
use Rattle.ft_partial.proofs.entries.newest.Goals as goal

pub returns-else-len-eq0 : goal.returns-else-len-eq0
returns-else-len-eq0 c = up_to_last _ c.args.entries.now c.requires c.if-len-eq0.false
