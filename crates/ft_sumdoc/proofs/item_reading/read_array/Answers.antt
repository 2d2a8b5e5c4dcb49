use Rattle.std.proofs.Common.{◌∙◌, map, option_map, sym, ap}
use Rattle.serde_json.specs.View.{view}
use Rattle.ft_sumdoc.proofs.ReadArrays.{all_items, no_array, no_items, not_together}
use Rattle.ft_sumdoc.proofs.item_reading.read_array.Goals as goal

pub returns-in_default : goal.returns-in_default
returns-in_default g c =
    let it = g.I.ListedItem in
    let d = view c.args.value.now in
    sym (no_array (it.form c.args.limits) it.together d (sym c.items.ensures ∙ ap (option_map (λ values. map view values.now)) c.in_default.is))

pub returns-in_default-2 : goal.returns-in_default-2
returns-in_default-2 g c =
    let it = g.I.ListedItem in
    let d = view c.args.value.now in
    let values = sym c.items.ensures ∙ ap (option_map (λ values. map view values.now)) c.in-Some.is in
    sym (no_items (it.form c.args.limits) it.together d (map view c.in-Some.values.now) values
    (sym c.in_ok-found.ensures ∙ ap (option_map (λ found. map it.meaning found.items)) c.in_default-2.is))

pub returns-then-may_stand : goal.returns-then-may_stand
returns-then-may_stand g c =
    let it = g.I.ListedItem in
    let d = view c.args.value.now in
    let found = c.in-Some-2.found.items in
    let values = sym c.items.ensures ∙ ap (option_map (λ values. map view values.now)) c.in-Some.is in
    sym (all_items (it.form c.args.limits) it.together d (map view c.in-Some.values.now) (map it.meaning found) values
    (sym c.in_ok-found.ensures ∙ ap (option_map (λ found. map it.meaning found.items)) c.in-Some-2.is)
    (sym (c.may_stand.ensures ∙ ap (λ xs. it.together (map it.meaning xs)) c.deref.ensures.value) ∙ c.if-may_stand.true))

pub returns-else-may_stand : goal.returns-else-may_stand
returns-else-may_stand g c =
    let it = g.I.ListedItem in
    let d = view c.args.value.now in
    let found = c.in-Some-2.found.items in
    let values = sym c.items.ensures ∙ ap (option_map (λ values. map view values.now)) c.in-Some.is in
    sym (not_together (it.form c.args.limits) it.together d (map view c.in-Some.values.now) (map it.meaning found) values
    (sym c.in_ok-found.ensures ∙ ap (option_map (λ found. map it.meaning found.items)) c.in-Some-2.is)
    (sym (c.may_stand.ensures ∙ ap (λ xs. it.together (map it.meaning xs)) c.deref.ensures.value) ∙ c.if-may_stand.false))
