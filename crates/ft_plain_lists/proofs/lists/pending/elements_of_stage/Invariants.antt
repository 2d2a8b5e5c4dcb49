use Rattle.std.proofs.Common.{◌≡◌, ◌++◌, drop, filter}
use Rattle.ft_props.specs.Steps.{is_inserted_by}
use Rattle.ft_plain_lists.proofs.lists.pending.elements_of_stage.Given as goal

-- those so far, and those of the rest, are all
abbrev pub invariant-loop-e : goal.invariant-loop-e
invariant-loop-e l = l.found.items ++ filter (is_inserted_by l.stage) (drop l.e-index l.items) ≡ filter (is_inserted_by l.stage) l.items
