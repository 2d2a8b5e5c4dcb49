use Rattle.std.proofs.Common.{◌+◌}
use Rattle.ft_base.proofs.Results.{after-done}
use Rattle.ft_interval_store.specs.State.{text_elements}
use Rattle.ft_string.specs.Rejoins.{GivesOps}
use Rattle.ft_string.proofs.rejoining.give_ops.Goals as goal

pub returns : goal.returns
returns c =
    after-done c.give_due-given.result c.after.result
    (λ sent. GivesOps (text_elements c.args.tree.now) (c.args.last + 1) c.args.ops.now.items c.give_due-given.new.ops.items
    c.args.kept.now.items c.give_due-given.new.kept.items sent)
    c.give_due-given.new.again c.give_due-given.ensures c.after.ensures.done c.after.ensures.value
