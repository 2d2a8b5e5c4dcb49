use Rattle.std.proofs.Common.{◌≡◌}
use Rattle.ft_json.specs.Objects.{entry_pairs}
use Rattle.ft_sumdoc.specs.Forms.{has_no_null}
use Rattle.ft_sumdoc.proofs.segment_reading.has_no_null.Given as goal

-- the entries that are left decide
abbrev pub invariant-loop-value : goal.invariant-loop-value
invariant-loop-value l = has_no_null (entry_pairs l.value-iterator) ≡ has_no_null (entry_pairs l.entries.entries)
