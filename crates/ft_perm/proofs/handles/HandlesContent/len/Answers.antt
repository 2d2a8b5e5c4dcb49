use Rattle.std.proofs.Common.{ap, arith}
use Rattle.ft_perm.specs.HandleLaws.{length-numbers_from}
use Rattle.ft_perm.proofs.handles.HandlesContent.len.Goals as goal

pub returns-clause-value : goal.returns-clause-value
returns-clause-value c = omega (arith, ap (λ r. r.count) c.self.view_is, length-numbers_from c.args.self.now.first c.args.self.now.count)
