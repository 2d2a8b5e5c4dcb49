use Rattle.std.proofs.Common.{pos}
use Rattle.ft_overlap.proofs.InsideLemmas.{in_depth}
use Rattle.ft_overlap.proofs.Law.{order_kept}
use Rattle.ft_overlap.proofs.Parts.{in_parts}
use Rattle.ft_overlap.proofs.index.Index.order_is_kept.Goals as goal

pub returns-clause-law : goal.returns-clause-law
returns-clause-law c = λ p q keeps o. order_kept p q c.args.self.now keeps (in_parts c.self.inside c.args.self.now c.self.view_is c.self.invariant) o

pub returns-clause-depth : goal.returns-clause-depth
returns-clause-depth c = in_depth (λ e. pos e) c.self.inside c.args.self.now c.self.view_is c.self.invariant
