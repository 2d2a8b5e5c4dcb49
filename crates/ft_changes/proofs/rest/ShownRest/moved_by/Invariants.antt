use Rattle.std.proofs.Common.{◌≡◌, true, drop}
use Rattle.ft_changes.specs.Rest.{are_of_lists, rest_of}
use Rattle.ft_changes.specs.Shown.{ShownContent, after_changes}
use Rattle.ft_changes.proofs.RestSteps.{GoesOn}
use Rattle.ft_changes.proofs.rest.ShownRest.moved_by.Given as goal

-- what the rest of the changes makes of what is there is what all make
abbrev pub invariant-loop-change : goal.invariant-loop-change
invariant-loop-change l =
    (s : ShownContent) → rest_of s ≡ l.fn.self → are_of_lists l.changes ≡ true → GoesOn l.rest (drop l.change-index l.changes) (after_changes s l.changes)
