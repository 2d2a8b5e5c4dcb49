use Rattle.std.proofs.Common.{◌≡◌, ◌+◌, ◌≤◌, drop}
use Rattle.ft_base.specs.Scan.{len}
use Rattle.ft_plain_lists.proofs.scans.seen_count.Given as goal

-- those that are counted, and those in the rest, are all
abbrev pub invariant-loop-e : goal.invariant-loop-e
invariant-loop-e g l =
    let seen = g.T.ElementTest.test l.seen in
    record { counted : l.count ≤ l.e-index; total : l.count + len seen (drop l.e-index l.items) ≡ len seen l.items }
