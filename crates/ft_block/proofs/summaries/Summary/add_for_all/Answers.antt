use Rattle.std.proofs.Common.{refl}
use Rattle.ft_block.proofs.SettledLemmas.{keeps_for_all}
use Rattle.ft_block.proofs.summaries.Summary.add_for_all.Goals as goal

pub returns-clause-keeps : goal.returns-clause-keeps
returns-clause-keeps c = keeps_for_all c.args.self.now _ c.args.len c.args.self.now.whole c.add_for_all.ensures.lengths c.add_for_all-2.ensures.lengths refl refl refl
