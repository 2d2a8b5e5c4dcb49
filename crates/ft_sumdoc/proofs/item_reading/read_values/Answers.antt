use Rattle.std.proofs.Common.{◌+◌, drop, map, option_map, ap, sym, ◌∙◌}
use Rattle.serde_json.specs.View.{view}
use Rattle.ft_sumdoc.specs.Forms.{each_of}
use Rattle.ft_sumdoc.proofs.ReadOptions.{behind, at_item, item_kept, item_refused, items_read}
use Rattle.ft_sumdoc.proofs.item_reading.read_values.Goals as goal

pub loop-value-preserved : goal.loop-value-preserved
loop-value-preserved g c =
    let form = g.I.ListedItem.form c.args.limits in
    let of = g.I.ListedItem.meaning in
    let values = c.args.values.now in
    let i = c.loop-value.value-index in
    let v = c.value-item.result in
    let here = at_item values i v c.loop-value-test.true c.value-item.is in
    ap (λ xs. behind (map of xs) (each_of form (map view (drop (i + 1) values)))) c.in_ok-push.ensures.items
    ∙ item_kept form of view c.loop-value.found.items v (drop (i + 1) values) c.in-Some.item (ap (option_map of) (sym c.in-Some.is)
    ∙ c.in_ok-item.ensures)
    ∙ ap (λ xs. behind (map of c.loop-value.found.items) (each_of form (map view xs))) (sym here) ∙ c.loop-value.invariant

pub returns-in_default : goal.returns-in_default
returns-in_default g c =
    let form = g.I.ListedItem.form c.args.limits in
    let of = g.I.ListedItem.meaning in
    let values = c.args.values.now in
    let i = c.loop-value.value-index in
    let v = c.value-item.result in
    let here = at_item values i v c.loop-value-test.true c.value-item.is in
    sym (item_refused form of view (map of c.loop-value.found.items) v (drop (i + 1) values) (sym c.in_ok-item.ensures ∙ ap
    (option_map of) c.in_default.is))
    ∙ ap (λ xs. behind (map of c.loop-value.found.items) (each_of form (map view xs))) (sym here) ∙ c.loop-value.invariant

pub returns : goal.returns
returns g c =
    let of = g.I.ListedItem.meaning in
    sym (items_read (g.I.ListedItem.form c.args.limits) of view (map of c.loop-value.found.items) c.args.values.now
    c.loop-value.value-index c.loop-value-test.false)
    ∙ c.loop-value.invariant
