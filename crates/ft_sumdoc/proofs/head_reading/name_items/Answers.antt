use Rattle.std.proofs.Common.{◌+◌, drop, map, ap, sym, ◌∙◌}
use Rattle.serde_json.specs.View.{view}
use Rattle.ft_props.specs.Properties.{Characters}
use Rattle.ft_sumdoc.specs.Forms.{characters, each_of}
use Rattle.ft_sumdoc.proofs.ReadOptions.{behind, at_item, next_kept, item_refused, items_read}
use Rattle.ft_sumdoc.proofs.head_reading.name_items.Goals as goal

pub loop-value-preserved : goal.loop-value-preserved
loop-value-preserved c =
    let values = c.args.values.now in
    let i = c.loop-value.value-index in
    let v = c.value-item.result in
    let rest = drop (i + 1) values in
    let here = at_item values i v c.loop-value-test.true c.value-item.is in
    ap (λ xs. behind xs (each_of characters (map view rest))) c.in_ok-push.ensures.ok
    ∙ next_kept characters (λ (x : Characters). x) view c.loop-value.names v rest c.in-Some.name (sym c.in-Some.is ∙ c.in_ok-name.ensures)
    ∙ ap (λ xs. behind c.loop-value.names (each_of characters (map view xs))) (sym here) ∙ c.loop-value.invariant

pub returns-in_default : goal.returns-in_default
returns-in_default c =
    let values = c.args.values.now in
    let i = c.loop-value.value-index in
    let v = c.value-item.result in
    let here = at_item values i v c.loop-value-test.true c.value-item.is in
    sym (item_refused characters (λ (x : Characters). x) view c.loop-value.names v (drop (i + 1) values) (sym c.in_ok-name.ensures ∙ c.in_default.is))
    ∙ ap (λ xs. behind c.loop-value.names (each_of characters (map view xs))) (sym here) ∙ c.loop-value.invariant

pub returns : goal.returns
returns c =
    sym (items_read characters (λ (x : Characters). x) view c.loop-value.names c.args.values.now c.loop-value.value-index c.loop-value-test.false)
    ∙ c.loop-value.invariant
