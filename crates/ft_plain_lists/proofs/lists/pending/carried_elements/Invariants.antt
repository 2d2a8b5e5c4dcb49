use Rattle.std.proofs.Common.{◌≡◌, ◌++◌, drop}
use Rattle.ft_base.specs.Scan.{retain_map}
use Rattle.ft_props.specs.Element.{is_sequenced}
use Rattle.ft_props.specs.Steps.{carried_element}
use Rattle.ft_plain_lists.proofs.lists.pending.carried_elements.Given as goal

-- those so far, and those of the rest, are all
abbrev pub invariant-loop-e : goal.invariant-loop-e
invariant-loop-e l = l.carried.items ++ retain_map is_sequenced carried_element (drop l.e-index l.items) ≡ retain_map is_sequenced carried_element l.items
