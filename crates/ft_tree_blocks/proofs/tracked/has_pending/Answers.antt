use Rattle.std.proofs.Common.{not, sym, ◌∙◌, ap, true≢false}
use Rattle.std.specs.List.{list_any}
use Rattle.ft_base.specs.Visibility.{is_acked}
use Rattle.ft_tree_blocks.proofs.TrackedSteps.{all_settled, untouched}
use Rattle.ft_tree_blocks.proofs.tracked.has_pending.Goals.{then-is_pending-via-then-is_pending, then-is_pending-via-else-is_pending+then-is_any_pending}
use Rattle.ft_tree_blocks.proofs.tracked.has_pending.Goals as goal

pub returns-clause-none : goal.returns-clause-none
returns-clause-none g c = λ h. untouched c.args.leaf.now (sym c.is_pending.ensures ∙ c.if-is_pending.false)
    (ap (list_any (λ t. not (is_acked t))) (sym c.as_slice.ensures) ∙ sym c.is_any_pending.ensures ∙ c.if-is_any_pending.false) (c.has_pending.ensures.0 h)

pub returns-clause-some : goal.returns-clause-some
returns-clause-some g c = λ none. c.has_pending.ensures.1 (all_settled c.args.leaf.now none).2

pub returns-then-is_pending-clause-some : goal.returns-then-is_pending-clause-some
returns-then-is_pending-clause-some g c = λ none.
    let settled = all_settled c.args.leaf.now none in
    elim c.then-is_pending.branch [
      | then-is_pending-via-then-is_pending w ↦ sym w.if-is_pending.true ∙ c.is_pending.ensures ∙ settled.0
      | then-is_pending-via-else-is_pending+then-is_any_pending w ↦
          sym w.if-is_any_pending.true ∙ w.is_any_pending.ensures ∙ ap (list_any (λ t. not (is_acked t))) w.as_slice.ensures ∙ settled.1
    ]
