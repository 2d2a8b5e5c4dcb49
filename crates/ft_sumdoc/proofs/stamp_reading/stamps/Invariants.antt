use Rattle.std.proofs.Common.{◌≡◌, drop, map}
use Rattle.serde_json.specs.View.{view}
use Rattle.ft_sumdoc.specs.Forms.{each_of}
use Rattle.ft_sumdoc.specs.Narrow.{narrow_form}
use Rattle.ft_sumdoc.proofs.ReadOptions.{behind}
use Rattle.ft_sumdoc.proofs.stamp_reading.stamps.Given as goal

-- what was read, then the rest, is what all give
abbrev pub invariant-loop-value : goal.invariant-loop-value
invariant-loop-value l = behind l.marks (each_of narrow_form (map view (drop l.value-index l.values))) ≡ each_of narrow_form (map view l.values)
