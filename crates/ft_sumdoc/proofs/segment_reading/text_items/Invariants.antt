use Rattle.std.proofs.Common.{◌≡◌, drop, map}
use Rattle.serde_json.specs.View.{view}
use Rattle.ft_sumdoc.specs.Items.{segment_of}
use Rattle.ft_sumdoc.specs.Narrow.{narrow_chunks}
use Rattle.ft_sumdoc.proofs.ReadOptions.{parts_behind}
use Rattle.ft_sumdoc.proofs.segment_reading.text_items.Given as goal

-- what was read, then the rest, is what all give
abbrev pub invariant-loop-value : goal.invariant-loop-value
invariant-loop-value l = parts_behind (map segment_of l.segs.items) l.lengths.items (narrow_chunks l.version (map view (drop l.value-index l.values))) ≡ narrow_chunks l.version (map view l.values)
