use Rattle.std.proofs.Common.{◌≡◌, ◌∙◌, ap, append-nil, sym, subst}
use Rattle.ft_changes.specs.Listeners.{heard}
use Rattle.ft_changes.specs.Told.{told_of_grid, told_sub_operations}
use Rattle.ft_op.specs.declared.operations.ChannelOp.TheVariants.{Grid}
use Rattle.ft_op.specs.Operation.{sub_operations}
use Rattle.ft_op.specs.Document.{effects}
use Rattle.ft_matrix.specs.Applied.{Passes, skips}
use Rattle.ft_matrix.proofs.ToldUnits.{told-alike}
use Rattle.ft_matrix.proofs.grid.Grid.apply_op.Goals as goal

pub returns-in_ok-apply-in-One-clause-applied : goal.returns-in_ok-apply-in-One-clause-applied
returns-in_ok-apply-in-One-clause-applied g c = λ last doc stages h.
    subst (λ n. Passes last c.apply.new.self doc (effects doc c.args.seq c.args.at.c c.args.at.r (sub_operations (Grid c.args.op.now))) stages n) (sym c.skips.ensures)
    (subst (λ o. Passes last c.apply.new.self doc (effects doc c.args.seq c.args.at.c c.args.at.r (sub_operations (Grid o))) stages (skips c.in_ok-apply-in-One.field-0))
    (sym c.in-One.is) (c.in_ok-apply-in-One.ensures.applied last doc stages h))

pub returns-in_ok-apply-in-One-clause-told : goal.returns-in_ok-apply-in-One-clause-told
returns-in_ok-apply-in-One-clause-told g c = λ last doc stages fits h to.
    let s = c.args.seq in
    let at = c.args.at in
    let op = c.in-One.op in
    subst (λ o. c.tell_op.new.listener ≡ heard c.args.listener.now (told_sub_operations last doc s at.c at.r (sub_operations (Grid o))))
    (sym c.in-One.is)
    (c.in_ok-tell_op-in-One.ensures
    ∙ ap (heard c.args.listener.now) (told-alike last fits c.args.self.now doc stages h to at op ∙ sym
    (append-nil (told_of_grid last doc at.c at.r op))))
