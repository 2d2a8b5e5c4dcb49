use Rattle.std.proofs.Common.{drop, refl}
use Rattle.std.proofs.lemmas.List.{drop_all}
use Rattle.ft_changes.specs.Shown.{after_changes}
use Rattle.ft_changes.proofs.RestSteps.{all-done, goes-further}
use Rattle.ft_changes.proofs.rest.ShownRest.moved_by.Goals as goal

pub loop-change-init : goal.loop-change-init
loop-change-init c = λ s e lists. record { now = s; is = e; of_lists = lists; leads = refl }

pub loop-change-preserved : goal.loop-change-preserved
loop-change-preserved c = λ s e lists.
    goes-further c.loop-change.rest c.in_ok-rest.rest c.args.changes.now c.loop-change.change-index c.change-item.result (after_changes s c.args.changes.now)
    c.loop-change-test.true c.change-item.is c.in_ok-rest.ensures (c.loop-change.invariant s e lists)

pub returns : goal.returns
returns c = λ s e lists.
    let i = c.loop-change.change-index in
    all-done c.loop-change.rest (drop i c.args.changes.now) (after_changes s c.args.changes.now) (drop_all i c.args.changes.now c.loop-change-test.false) (c.loop-change.invariant s e lists)
