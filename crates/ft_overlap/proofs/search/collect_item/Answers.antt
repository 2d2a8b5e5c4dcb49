use Rattle.std.proofs.Common.{◌<ℤ◌, ◌≤ℤ◌, ◌+◌, ◌∷◌, [], ℕ, ℤ, List, true, sym, arith, subst}
use Rattle.std.proofs.lemmas.Int.{ints}
use Rattle.ft_overlap.specs.Search.{Collects}
use Rattle.ft_overlap.proofs.Collecting.{item_stop, item_in, item_out}
use Rattle.ft_overlap.proofs.search.collect_item.Goals as goal

pub returns-then-place-range : goal.returns-then-place-range
returns-then-place-range g c = λ steps. item_stop (g.P.Places.end_place c.args.at.now) c.args.range.now.low c.args.range.now.high c.args.item.now c.args.found.now.items steps
    (subst (λ (z : ℤ). c.args.range.now.high <ℤ z) c.place.ensures (omega (arith, ints)))

pub returns-else-place-range-2 : goal.returns-else-place-range-2
returns-else-place-range-2 g c = λ steps. item_out (g.P.Places.end_place c.args.at.now) c.args.range.now.low c.args.range.now.high c.args.item.now c.args.found.now.items steps
    (subst (λ (z : ℤ). z ≤ℤ c.args.range.now.high) c.place.ensures (omega (arith, ints))) (subst (λ (z : ℤ). z <ℤ c.args.range.now.low) c.place-2.ensures (omega (arith, ints)))

pub returns-in_ok-push : goal.returns-in_ok-push
returns-in_ok-push g c = λ steps.
    let low : g.P.Places.end_place c.args.at.now c.args.item.now.start ≤ℤ c.args.range.now.high =
    subst (λ (z : ℤ). z ≤ℤ c.args.range.now.high) c.place.ensures (omega (arith, ints)) in
    let high : c.args.range.now.low ≤ℤ g.P.Places.end_place c.args.at.now c.args.item.now.end =
    subst (λ (z : ℤ). c.args.range.now.low ≤ℤ z) c.place-2.ensures (omega (arith, ints)) in
    subst (λ (ks : List ℕ). Collects (g.P.Places.end_place c.args.at.now) c.args.range.now.low c.args.range.now.high (c.args.item.now ∷ [])
    0 c.args.found.now.items ks steps (steps + 1) true)
    (sym {A = List ℕ} c.in_ok-push.ensures.items)
    (item_in (g.P.Places.end_place c.args.at.now) c.args.range.now.low c.args.range.now.high c.args.item.now c.args.found.now.items steps low high)
