use Rattle.std.proofs.Common.{refl}
use Rattle.ft_partial.proofs.EntryLemmas.{adds_tidied}
use Rattle.ft_partial.proofs.TableLemmas.{stages_more}
use Rattle.ft_partial.proofs.stages.put_entries.Goals as goal

pub returns-clause-ok : goal.returns-clause-ok
returns-clause-ok c = adds_tidied _ _ _ _ _ refl c.in_ok-add.ensures.ok c.drop_nothing.ensures

pub returns-clause-stages : goal.returns-clause-stages
returns-clause-stages c = stages_more _ _ _ c.requires (returns-clause-ok c)
