use Rattle.std.proofs.Common.{sym, ◌∙◌}
use Rattle.ft_interval_store.proofs.AckedRecords.{none-there}
use Rattle.ft_interval_store.proofs.StandingEnds.{all-stay}
use Rattle.ft_interval_store.proofs.all.carry_all.Goals as goal

pub returns-then-is_none : goal.returns-then-is_none
returns-then-is_none c =
    all-stay c.args.tree.now c.args.from c.args.to c.requires.rises (sym c.removal_until.ensures ∙ none-there c.removal_until.result c.if-is_none.ensures) c.args.all.now
