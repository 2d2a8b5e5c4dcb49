use Rattle.ft_interval_store.proofs.ShownSteps.{carried-shown}
use Rattle.ft_interval_store.proofs.shown.carried_shown.Goals as goal

pub returns : goal.returns
returns c = λ i s.
    carried-shown c.args.tree.now c.args.from c.args.to i c.args.shown c.in_ok-shown.field-0 c.carried.result c.in_ok-shown.was s
    c.carried.ensures.start c.carried.ensures.end
