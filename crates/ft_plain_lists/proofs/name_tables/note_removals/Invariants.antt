use Rattle.std.proofs.Common.{◌≤◌, drop, length}
use Rattle.ft_props.specs.Element.{has_sequenced_removal}
use Rattle.ft_plain_lists.specs.NameTables.{HasAnswers}
use Rattle.ft_plain_lists.proofs.name_tables.note_removals.Given as goal

-- the elements from here on are noted
abbrev pub invariant-loop-i : goal.invariant-loop-i
invariant-loop-i l = record {
  inside : l.i ≤ length l.items;
  right : HasAnswers (has_sequenced_removal (drop l.i l.items)) l.table;
}

abbrev pub decreases-loop-i : goal.decreases-loop-i
decreases-loop-i l = l.i
