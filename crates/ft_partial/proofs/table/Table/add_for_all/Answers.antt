use Rattle.std.proofs.Common.{ap, refl}
use Rattle.ft_partial.proofs.TableLemmas.{adds_for_all}
use Rattle.ft_partial.proofs.table.Table.add_for_all.Goals as goal

pub returns-clause-lengths : goal.returns-clause-lengths
returns-clause-lengths c = adds_for_all c.args.self.now _ c.args.len c.self.inside.last (ap (λ t. t.last) c.self.view_is) (ap (λ t. t.entries) c.self.view_is) refl
