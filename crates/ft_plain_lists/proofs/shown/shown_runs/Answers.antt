use Rattle.std.proofs.Common.{◌∙◌, [], sym, ap}
use Rattle.ft_msg.specs.Content.{stage_view}
use Rattle.ft_plain_lists.specs.PropertyRuns.{runs_before}
use Rattle.ft_plain_lists.proofs.BackwardRuns.{runs-of_props}
use Rattle.ft_plain_lists.proofs.shown.shown_runs.Goals as goal

pub returns : goal.returns
returns c =
    let xs = stage_view c.args.stage c.args.items.now in
    c.turned.ensures ∙ c.in_ok-backwards.ensures ∙ ap (λ props. runs_before 0 props []) c.in_ok-props.ensures ∙ sym (runs-of_props 0 xs)
