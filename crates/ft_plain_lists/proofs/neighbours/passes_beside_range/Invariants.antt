use Rattle.std.proofs.Common.{◌≤◌, drop}
use Rattle.ft_changes.specs.Beside.{is_always_seen, is_standing}
use Rattle.ft_plain_lists.proofs.StandingPairs.{RestPasses}
use Rattle.ft_plain_lists.proofs.neighbours.passes_beside_range.Given as goal

-- all pass if those in the rest do, behind the last one that stands
abbrev pub invariant-loop-e : goal.invariant-loop-e
invariant-loop-e g l =
    let seen = g.S.ElementTest.test l.seen in
    record {
      counted : l.place ≤ l.e-index;
      all : RestPasses seen is_standing is_always_seen l.p l.q l.last.is_inside l.last.passes l.place (drop l.e-index l.items) l.items;
    }
