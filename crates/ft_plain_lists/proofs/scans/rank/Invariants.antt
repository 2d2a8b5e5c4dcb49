use Rattle.std.proofs.Common.{◌≡◌, ◌+◌, ◌≤◌, drop}
use Rattle.ft_base.specs.Scan.{rank}
use Rattle.ft_plain_lists.proofs.scans.rank.Given as goal

-- those that are counted, and the rank in the rest, are the rank in all
abbrev pub invariant-loop-e : goal.invariant-loop-e
invariant-loop-e g l =
    let meant = g.M.ElementTest.test l.meant in
    let seen = g.T.ElementTest.test l.seen in
    record { counted : l.count ≤ l.e-index; total : l.count + rank meant seen (drop l.e-index l.items) ≡ rank meant seen l.items }
