use Rattle.std.proofs.Common.{◌<◌, ◌≤◌, ◌∙◌, ap, arith, length, subst, sym}
use Rattle.std.proofs.lemmas.Grind.{common_steps}
use Rattle.ft_plain_lists.specs.Places.{IsPlaceIn, rising_place, set_or_insert}
use Rattle.ft_plain_lists.proofs.PlacedItem.{rising-in, rising-put}
use Rattle.ft_shown.proofs.rising.put_rising.Goals as goal

pub index_mut-requires : goal.index_mut-requires
index_mut-requires g c =
    let order = g.T.ShownItem.order in
    let xs = c.args.items.now.items in
    let place = c.in-Ok.ensures ∙ ap (rising_place order c.args.item) c.as_slice.ensures.value in
    let inside : c.in-Ok.place < length xs = subst (λ r. IsPlaceIn r (length xs)) (sym place) (rising-in order c.args.item xs) in
    grind (arith, common_steps, inside)

pub insert-requires : goal.insert-requires
insert-requires g c =
    let order = g.T.ShownItem.order in
    let xs = c.args.items.now.items in
    let place = c.in-Err.ensures ∙ ap (rising_place order c.args.item) c.as_slice.ensures.value in
    let inside : c.in-Err.place ≤ length xs = subst (λ r. IsPlaceIn r (length xs)) (sym place) (rising-in order c.args.item xs) in
    grind (arith, common_steps, inside)

pub returns-in-Ok : goal.returns-in-Ok
returns-in-Ok g c =
    let order = g.T.ShownItem.order in
    let x = c.args.item in
    let xs = c.args.items.now.items in
    let place = c.in-Ok.ensures ∙ ap (rising_place order x) c.as_slice.ensures.value in
    ap (λ r. set_or_insert r x xs) place ∙ sym (rising-put order x xs)

pub returns-in_ok-insert-in-Err : goal.returns-in_ok-insert-in-Err
returns-in_ok-insert-in-Err g c =
    let order = g.T.ShownItem.order in
    let x = c.args.item in
    let xs = c.args.items.now.items in
    let place = c.in-Err.ensures ∙ ap (rising_place order x) c.as_slice.ensures.value in
    c.in_ok-insert-in-Err.ensures.items ∙ ap (λ r. set_or_insert r x xs) place ∙ sym (rising-put order x xs)
