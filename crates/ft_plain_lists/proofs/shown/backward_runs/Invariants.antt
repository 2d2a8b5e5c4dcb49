use Rattle.std.proofs.Common.{◌≡◌, [], reverse, vec_len}
use Rattle.ft_plain_lists.specs.PropertyRuns.{runs_before}
use Rattle.ft_plain_lists.proofs.shown.backward_runs.Given as goal

-- the elements that are left make of the runs so far what all make of none
abbrev pub invariant-loop-last : goal.invariant-loop-last
invariant-loop-last l = runs_before 0 l.props.items (reverse l.runs.items) ≡ runs_before 0 l.fn.props.items []

abbrev pub decreases-loop-last : goal.decreases-loop-last
decreases-loop-last l = vec_len l.props
