use Rattle.std.proofs.Common.{◌≡◌, ◌+◌, ◌≤◌, drop, length}
use Rattle.ft_base.specs.Scan.{len}
use Rattle.ft_props.specs.Element.{has_id}
use Rattle.ft_plain_lists.specs.NameTables.{HasAnswers}
use Rattle.ft_plain_lists.proofs.NotedAnswers.{first_from, seen_before}
use Rattle.ft_plain_lists.proofs.name_tables.note_ranks.Given as goal

-- the elements from here on are noted; so many as are left are seen before them
abbrev pub invariant-loop-i : goal.invariant-loop-i
invariant-loop-i g l =
    let seen = g.T.ElementTest.test l.seen in
    record {
      inside : l.i ≤ length l.items;
      counted : l.left + len seen (drop l.i l.items) ≡ len seen l.items;
      right : HasAnswers (λ x. first_from (seen_before seen l.items) (len seen l.items) (has_id x) (drop l.i l.items)) l.table;
    }

abbrev pub decreases-loop-i : goal.decreases-loop-i
decreases-loop-i g l = l.i
