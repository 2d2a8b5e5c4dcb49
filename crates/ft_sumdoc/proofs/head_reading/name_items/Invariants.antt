use Rattle.std.proofs.Common.{◌≡◌, drop, map}
use Rattle.serde_json.specs.View.{view}
use Rattle.ft_sumdoc.specs.Forms.{characters, each_of}
use Rattle.ft_sumdoc.proofs.ReadOptions.{behind}
use Rattle.ft_sumdoc.proofs.head_reading.name_items.Given as goal

-- what was read, then the rest, is what all give
abbrev pub invariant-loop-value : goal.invariant-loop-value
invariant-loop-value l = behind l.names (each_of characters (map view (drop l.value-index l.values))) ≡ each_of characters (map view l.values)
