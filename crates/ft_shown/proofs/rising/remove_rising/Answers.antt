use Rattle.std.proofs.Common.{◌<◌, ◌∙◌, ap, arith, length, subst, sym}
use Rattle.std.proofs.lemmas.Grind.{common_steps}
use Rattle.ft_plain_lists.specs.Places.{IsPlaceIn, rising_place}
use Rattle.ft_plain_lists.proofs.PlacedItem.{rising-in}
use Rattle.ft_shown.proofs.RisingItems.{removed_at, rising-removed}
use Rattle.ft_shown.proofs.rising.remove_rising.Goals as goal

pub remove-requires : goal.remove-requires
remove-requires g c =
    let order = g.T.ShownItem.order in
    let xs = c.args.items.now.items in
    let place = c.in-Ok.ensures ∙ ap (rising_place order c.args.item) c.as_slice.ensures.value in
    let inside : c.in-Ok.place < length xs = subst (λ r. IsPlaceIn r (length xs)) (sym place) (rising-in order c.args.item xs) in
    grind (arith, common_steps, inside)

pub returns-in-Ok : goal.returns-in-Ok
returns-in-Ok g c =
    let order = g.T.ShownItem.order in
    let x = c.args.item in
    let xs = c.args.items.now.items in
    let place = c.in-Ok.ensures ∙ ap (rising_place order x) c.as_slice.ensures.value in
    c.remove.ensures.items ∙ ap (λ r. removed_at r xs) place ∙ sym (rising-removed order x xs)

pub returns : goal.returns
returns g c =
    let order = g.T.ShownItem.order in
    let x = c.args.item in
    let xs = c.args.items.now.items in
    let place = c.in-Err.ensures ∙ ap (rising_place order x) c.as_slice.ensures.value in
    ap (λ r. removed_at r xs) place ∙ sym (rising-removed order x xs)
