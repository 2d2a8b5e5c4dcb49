use Rattle.std.proofs.Common.{◌≡◌, ◌≤◌, ◌++◌, drop, take}
use Rattle.ft_base.specs.Scan.{change_range, change_range_from}
use Rattle.ft_plain_lists.proofs.scans.mark_range.Given as goal

-- the elements so far are changed; the rest is as it was, and what the change makes of it completes the whole
abbrev pub invariant-loop-e : goal.invariant-loop-e
invariant-loop-e g l =
    let seen = g.T.ElementTest.test l.seen in
    let marked = g.M.ElementMark.marked l.mark in
    record {
      counted : l.place ≤ l.e-index;
      rest : drop l.e-index l.items ≡ drop l.e-index l.initial.items;
      changed : take l.e-index l.items ++ change_range_from l.place seen l.p l.q marked (drop l.e-index l.items) ≡ change_range seen l.p l.q marked l.initial.items;
    }
