use Rattle.std.proofs.Common.{◌≤◌, ℕ, List, All, map, sym, subst}
use Rattle.std.specs.Prelude.{IfOk, OnOk}
use Rattle.ft_refs.specs.declared.numbers.Place.{Place}
use Rattle.ft_interval_store.specs.declared.intervals.Interval.{Interval}
use Rattle.ft_interval_store.specs.declared.pending.Operation.{Operation}
use Rattle.ft_interval_store.specs.Gathered.{IsPartOf, is_on_any}
use Rattle.ft_interval_store.specs.Shown.{last, settled_interval}
use Rattle.ft_interval_store.specs.Standing.{ShowsAll}
use Rattle.ft_interval_store.specs.State.{CollectionsState, IsLive, placed_intervals, text_elements}
use Rattle.ft_interval_store.proofs.KeptEnds.{live-intervals}
use Rattle.ft_interval_store.proofs.store.Store.places_of_pending.Goals as goal

pub places_of_pending-requires-clause-acked : goal.places_of_pending-requires-clause-acked
places_of_pending-requires-clause-acked c =
    let old : CollectionsState = record { acked = c.self.inside.acked; pending = c.self.inside.pending.items } in
    live-intervals c.args.tree.now.refs old (subst (λ x. IsLive c.args.tree.now.refs x) (sym c.self.view_is) c.requires.live)

pub returns-clause-part : goal.returns-clause-part
returns-clause-part c =
    let tree = c.args.tree.now in
    let Part = λ (is : List (Interval ℕ)) (ts : List Operation). IfOk c.places_of_pending.result (λ (all : List (Interval Place)). (js : List (Interval ℕ)) × ShowsAll tree 0 js all
    × IsPartOf (map (settled_interval (text_elements tree) 0) (placed_intervals tree.refs is)) js (λ n. is_on_any n ts)) in
    subst (λ (x : CollectionsState). Part x.acked x.pending) c.self.view_is
    c.places_of_pending.ensures.part

pub returns-clause-fits : goal.returns-clause-fits
returns-clause-fits c =
    let Fit = λ (ts : List Operation). OnOk c.places_of_pending.result (All (λ (t : Operation). t.stage ≤ last) ts) in
    subst (λ (x : CollectionsState). Fit x.pending) c.self.view_is c.places_of_pending.ensures.fits
