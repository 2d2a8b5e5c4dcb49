use Rattle.std.proofs.Common.{◌≡◌, pos, rules}
use Rattle.ft_interval_store.proofs.ends.add_end.Goals as goal

pub add_number-requires-clause-there : goal.add_number-requires-clause-there
add_number-requires-clause-there c = let at : c.args.position ≡ pos c.in-Ok.p = search rules in c.requires.there c.in-Ok.p at

pub returns-clause-end : goal.returns-clause-end
returns-clause-end c = let at : c.args.position ≡ pos c.in-Ok.p = search rules in rw at c.add_number.ensures.end
