use Rattle.std.proofs.Common.{◌≡◌, ◌+◌, ◌≤◌, drop}
use Rattle.ft_changes.specs.ShownRuns.{place_of_insertion}
use Rattle.ft_plain_lists.proofs.changes.place_of_insertion.Given as goal

-- those that were passed, and those before the place in the rest, are all before the place
abbrev pub invariant-loop-e : goal.invariant-loop-e
invariant-loop-e g l =
    let at = place_of_insertion (g.S.ElementTest.test l.seen) (g.P.ElementTest.test l.past) (g.T.ElementTest.test l.shown) in
    record { counted : l.count ≤ l.e-index; all : l.count + at l.left (drop l.e-index l.items) ≡ at l.fn.p l.items }
