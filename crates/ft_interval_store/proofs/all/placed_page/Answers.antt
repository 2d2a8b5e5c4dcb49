use Rattle.std.proofs.Common.{ℕ, ◌+◌, List, [], take, map, sym, subst}
use Rattle.std.proofs.lemmas.List.{take_all}
use Rattle.std.proofs.lemmas.List.Elements.{All-get_or}
use Rattle.ft_refs.specs.declared.numbers.Place.{Place}
use Rattle.ft_interval_store.specs.declared.intervals.Interval.{Interval}
use Rattle.ft_interval_store.specs.Ends.{AreLiveEnds, places_of_ends}
use Rattle.ft_interval_store.specs.Shown.{settled_interval}
use Rattle.ft_interval_store.specs.Standing.{ShowsAll}
use Rattle.ft_interval_store.specs.State.{placed_intervals, text_elements, with_mapped_ends}
use Rattle.ft_interval_store.proofs.ShownAll.{next-shown}
use Rattle.ft_interval_store.proofs.all.placed_page.Goals as goal

pub loop-i-init : goal.loop-i-init
loop-i-init c = subst (λ js. ShowsAll c.args.tree.now 0 [] js) (sym c.in_ok-items.ensures.items) tt

pub placed_on_heap-requires-clause-live : goal.placed_on_heap-requires-clause-live
placed_on_heap-requires-clause-live c =
    let refs = c.args.tree.now.refs in
    subst (λ (i : Interval ℕ). AreLiveEnds refs i.ends) (sym c.i-item.is)
    (All-get_or (λ (i : Interval ℕ). AreLiveEnds refs i.ends) c.args.page.now c.loop-i.i-index c.i-item.result c.loop-i-test.true c.requires.live)

pub loop-i-preserved : goal.loop-i-preserved
loop-i-preserved c =
    let xs = text_elements c.args.tree.now in
    let refs = c.args.tree.now.refs in
    let is = c.args.page.now in
    let n = c.loop-i.i-index in
    let pushed = sym {A = List (Interval Place)} c.in_ok-push.ensures.items in
    subst (λ js. ShowsAll c.args.tree.now 0 (map (settled_interval xs 0) (placed_intervals refs (take (n + 1) is))) js) pushed
    (next-shown c.args.tree.now 0 (settled_interval xs 0) (with_mapped_ends (places_of_ends refs)) is c.loop-i.items.items n c.i-item.result
    c.in_ok-placed_on_heap.field-0 c.loop-i-test.true c.i-item.is c.loop-i.invariant c.in_ok-placed_on_heap.ensures)

pub returns : goal.returns
returns c =
    let xs = text_elements c.args.tree.now in
    let refs = c.args.tree.now.refs in
    subst (λ is. ShowsAll c.args.tree.now 0 (map (settled_interval xs 0) (placed_intervals refs is)) c.loop-i.items.items)
    (take_all c.loop-i.i-index c.args.page.now c.loop-i-test.false) c.loop-i.invariant
