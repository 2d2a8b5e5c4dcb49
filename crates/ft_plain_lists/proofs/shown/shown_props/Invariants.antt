use Rattle.std.proofs.Common.{◌≡◌, ◌++◌, drop}
use Rattle.ft_msg.specs.Content.{stage_view}
use Rattle.ft_plain_lists.specs.PropertyRuns.{all_shown_props}
use Rattle.ft_plain_lists.proofs.shown.shown_props.Given as goal

-- the properties so far, and those of the rest of the elements, are all
abbrev pub invariant-loop-e : goal.invariant-loop-e
invariant-loop-e l = l.props.items ++ all_shown_props (stage_view l.stage (drop l.e-index l.items)) ≡ all_shown_props (stage_view l.stage l.items)
