use Rattle.std.proofs.Common.{◌∙◌, ap, length, subst, sym}
use Rattle.std.proofs.lemmas.Result.{on_ok_weaker}
use Rattle.ft_props.specs.Keys.{put_rising}
use Rattle.ft_op.specs.Intervals.{interval_cmp}
use Rattle.ft_plain_lists.specs.Places.{IsPlaceIn, rising_place, set_or_insert}
use Rattle.ft_plain_lists.proofs.PlacedItem.{rising-in, rising-put}
use Rattle.ft_plain_lists.proofs.intervals.PlainIntervals.put.Goals as goal

pub set_or_insert-requires : goal.set_or_insert-requires
set_or_insert-requires c =
    let xs = c.self.inside.items.items in
    let place = c.interval_place-place.ensures ∙ ap (rising_place interval_cmp c.args.interval) c.as_slice.ensures.value in
    subst (λ r. IsPlaceIn r (length xs)) (sym place) (rising-in interval_cmp c.args.interval xs)

pub returns-clause-ok : goal.returns-clause-ok
returns-clause-ok c =
    let xs = c.self.inside.items.items in
    let place = c.interval_place-place.ensures ∙ ap (rising_place interval_cmp c.args.interval) c.as_slice.ensures.value in
    on_ok_weaker c.set_or_insert.result
    (λ made. made ∙ ap (λ r. set_or_insert r c.args.interval xs) place ∙ sym (rising-put interval_cmp c.args.interval xs)
    ∙ ap (put_rising interval_cmp c.args.interval) c.self.view_is)
    c.set_or_insert.ensures.items
