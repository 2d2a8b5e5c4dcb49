use Rattle.std.proofs.Common.{◌≡◌}
use Rattle.ft_changes.specs.Shown.{after_changes}
use Rattle.ft_shown.proofs.shown.Shown.apply_all.Given as goal

-- what is shown so far leads on by the rest of the changes as by all
abbrev pub invariant-loop-change : goal.invariant-loop-change
invariant-loop-change l = after_changes l.self l.change-iterator.rest.items ≡ after_changes l.initial.self l.fn.changes
