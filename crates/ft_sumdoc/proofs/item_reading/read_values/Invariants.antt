use Rattle.std.proofs.Common.{◌≡◌, drop, map}
use Rattle.serde_json.specs.View.{view}
use Rattle.ft_sumdoc.specs.Forms.{each_of}
use Rattle.ft_sumdoc.proofs.ReadOptions.{behind}
use Rattle.ft_sumdoc.proofs.item_reading.read_values.Given as goal

-- what was read, then the rest, is what all give
abbrev pub invariant-loop-value : goal.invariant-loop-value
invariant-loop-value g l =
    let form = g.I.ListedItem.form l.limits in
    behind (map g.I.ListedItem.meaning l.found.items) (each_of form (map view (drop l.value-index l.values))) ≡ each_of form (map view l.values)
