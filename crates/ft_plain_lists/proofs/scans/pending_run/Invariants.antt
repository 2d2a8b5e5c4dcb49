use Rattle.std.proofs.Common.{◌≡◌, ◌+◌, drop}
use Rattle.std.specs.List.{prefix_len}
use Rattle.ft_props.specs.Element.{is_pending}
use Rattle.ft_plain_lists.proofs.scans.pending_run.Given as goal

-- the run of all is as many elements on as were passed
abbrev pub invariant-loop-i : goal.invariant-loop-i
invariant-loop-i l = prefix_len is_pending l.items ≡ l.i + prefix_len is_pending (drop l.i l.items)
