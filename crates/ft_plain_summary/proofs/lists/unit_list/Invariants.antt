use Rattle.std.proofs.Common.{◌≡◌, ◌++◌, drop, length}
use Rattle.ft_msg.specs.Summary.{run_items}
use Rattle.ft_plain_summary.proofs.lists.unit_list.Given as goal

-- the units so far, and those of the rest of the runs, are all
abbrev pub invariant-loop-run : goal.invariant-loop-run
invariant-loop-run l = record {
  counted : l.list.made ≡ length l.list.items;
  all : l.list.items ++ run_items l.list.made (drop l.run-index l.runs) ≡ run_items 0 l.runs;
}
