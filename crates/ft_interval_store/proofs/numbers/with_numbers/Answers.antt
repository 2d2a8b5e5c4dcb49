use Rattle.std.proofs.Common.{◌∙◌, ap}
use Rattle.ft_op.specs.declared.operations.TextOp.{TextOp}
use Rattle.ft_interval_store.specs.Shown.{regenerated}
use Rattle.ft_interval_store.proofs.WrittenNumbers.{numbers-at}
use Rattle.ft_interval_store.proofs.numbers.with_numbers.Goals as goal

pub returns : goal.returns
returns c = λ xs k ends n.
    c.with_ends.ensures xs k ends (c.ends_of_numbers-ends.ensures ∙ numbers-at xs k ends c.args.numbers n)
    ∙ ap (λ (o : TextOp). regenerated xs k ends o) c.in_ok-again.ensures
