use Rattle.std.proofs.Common.{ℕ, sym, subst}
use Rattle.ft_refs.specs.declared.numbers.Place.{Place}
use Rattle.ft_interval_store.specs.declared.intervals.Interval.{Interval}
use Rattle.ft_interval_store.specs.Ends.{AreLiveEnds, places_of_ends}
use Rattle.ft_interval_store.specs.Shown.{settled_interval}
use Rattle.ft_interval_store.specs.Standing.{ShowsInterval}
use Rattle.ft_interval_store.specs.State.{text_elements, with_mapped_ends}
use Rattle.ft_interval_store.proofs.all.placed_on_heap.Goals as goal

pub placed-requires-clause-live : goal.placed-requires-clause-live
placed-requires-clause-live c = subst (λ (i : Interval ℕ). AreLiveEnds c.args.tree.now.refs i.ends) (sym c.get.ensures) c.requires.live

pub returns : goal.returns
returns c =
    let tree = c.args.tree.now in
    let xs = text_elements tree in
    let places = places_of_ends tree.refs in
    subst (λ (i : Interval ℕ). ShowsInterval tree 0 (settled_interval xs 0 (with_mapped_ends places i)) c.in_ok-held.held) c.get.ensures
    (subst (λ (x : Interval Place). ShowsInterval tree 0 (settled_interval xs 0 (with_mapped_ends places c.get.result.now)) x) (sym c.in_ok-held.ensures)
    c.in_ok-interval.ensures)
