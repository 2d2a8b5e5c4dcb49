use Rattle.std.proofs.Common.{map, sym, subst}
use Rattle.std.specs.Prelude.{OnOk}
use Rattle.std.specs.Ordering.{is_eq}
use Rattle.ft_interval_store.specs.Gathered.{Gathers}
use Rattle.ft_interval_store.specs.Intervals.{name_cmp}
use Rattle.ft_interval_store.specs.Shown.{settled_interval}
use Rattle.ft_interval_store.specs.State.{CollectionsState, IsLive, placed_intervals, text_elements}
use Rattle.ft_interval_store.proofs.KeptEnds.{live-intervals}
use Rattle.ft_interval_store.proofs.store.Store.add_named.Goals as goal

pub add_named-requires-clause-acked : goal.add_named-requires-clause-acked
add_named-requires-clause-acked c =
    let old : CollectionsState = record { acked = c.self.inside.acked; pending = c.self.inside.pending.items } in
    live-intervals c.args.tree.now.refs old (subst (λ x. IsLive c.args.tree.now.refs x) (sym c.self.view_is) c.requires.live)

pub returns : goal.returns
returns c =
    let tree = c.args.tree.now in
    subst (λ (x : CollectionsState). OnOk c.add_named.result (Gathers tree (map (settled_interval (text_elements tree) 0) (placed_intervals tree.refs x.acked))
    (λ n. is_eq (name_cmp n (c.args.label.now, c.args.id.now))) c.args.all.now c.add_named.new.all)) c.self.view_is c.add_named.ensures.gathers
