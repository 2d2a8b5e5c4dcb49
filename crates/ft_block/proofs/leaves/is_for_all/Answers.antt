use Rattle.std.proofs.Common.{leb-true, rules}
use Rattle.ft_block.proofs.SettledLemmas.{for_all}
use Rattle.ft_block.proofs.leaves.is_for_all.Goals as goal

pub returns-in-Acked-clause-seen : goal.returns-in-Acked-clause-seen
returns-in-Acked-clause-seen c = λ yes. for_all c.args.floor c.args.e.now c.in-Acked.seq c.in-Acked.conn c.in-Acked.is (search rules) (leb-true _ _ yes)
