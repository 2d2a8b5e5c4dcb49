use Rattle.std.proofs.Common.{◌≡◌, ◌≤◌, None, drop, length}
use Rattle.ft_props.specs.Element.{has_id}
use Rattle.ft_plain_lists.specs.NameTables.{HasAnswers}
use Rattle.ft_plain_lists.proofs.NotedAnswers.{first_from, next_or_last}
use Rattle.ft_plain_lists.proofs.name_tables.note_settled.Given as goal

-- the elements from here on are noted, and `next` is where they send an end before them
abbrev pub invariant-loop-i : goal.invariant-loop-i
invariant-loop-i g l =
    let seen = g.T.ElementTest.test l.seen in
    record {
      inside : l.i ≤ length l.items;
      sent : l.next ≡ next_or_last seen l.items (drop l.i l.items);
      right : HasAnswers (λ x. first_from (next_or_last seen l.items) None (has_id x) (drop l.i l.items)) l.table;
    }

abbrev pub decreases-loop-i : goal.decreases-loop-i
decreases-loop-i g l = l.i
