use Rattle.std.proofs.Common.{Option, Some, IfSome, option_map, subst, sym, ◌∙◌, ap}
use Rattle.ft_op.specs.declared.operations.Ends.{Ends}
use Rattle.ft_refs.specs.declared.numbers.Place.{Place}
use Rattle.ft_interval_store.specs.declared.intervals.EndPair.{EndPair}
use Rattle.ft_interval_store.specs.Intervals.{Name, interval_of}
use Rattle.ft_interval_store.specs.Shown.{last, numbers_at, shown_intervals}
use Rattle.ft_interval_store.specs.Standing.{AreOnTree, end_places}
use Rattle.ft_interval_store.specs.State.{CollectionsState, IsLive, placed_intervals, placed_operations, text_elements}
use Rattle.ft_interval_store.proofs.KeptEnds.{live-intervals, live-operations}
use Rattle.ft_interval_store.proofs.StandingEnds.{numbers_of, shows-numbers, shows-on}
use Rattle.ft_interval_store.proofs.store.Store.shown.Goals as goal

pub shown_ends-requires-clause-acked : goal.shown_ends-requires-clause-acked
shown_ends-requires-clause-acked c =
    let old : CollectionsState = record { acked = c.self.inside.acked; pending = c.self.inside.pending.items } in
    live-intervals c.args.tree.now.refs old (subst (λ x. IsLive c.args.tree.now.refs x) (sym c.self.view_is) c.requires.live)

pub shown_ends-requires-clause-pending : goal.shown_ends-requires-clause-pending
shown_ends-requires-clause-pending c =
    let old : CollectionsState = record { acked = c.self.inside.acked; pending = c.self.inside.pending.items } in
    live-operations c.args.tree.now.refs old (subst (λ x. IsLive c.args.tree.now.refs x) (sym c.self.view_is) c.requires.live)

pub shown_numbers-requires-clause-on_leaf : goal.shown_numbers-requires-clause-on_leaf
shown_numbers-requires-clause-on_leaf c =
    let tree = c.args.tree.now in
    let n : Name = (c.args.label.now, c.args.id.now) in
    let is = placed_intervals tree.refs c.self.inside.acked in
    let ts = placed_operations tree.refs c.self.inside.pending.items in
    subst (λ (e : Option (EndPair Place)). IfSome e (AreOnTree tree)) c.in_ok-ends.was
    (shows-on tree last (interval_of n (shown_intervals (text_elements tree) is ts)) c.shown_ends.result c.shown_ends.ensures)

pub returns-in_err-ends : goal.returns-in_err-ends
returns-in_err-ends c =
    let tree = c.args.tree.now in
    let xs = text_elements tree in
    let refs = tree.refs in
    let n : Name = (c.args.label.now, c.args.id.now) in
    let is = placed_intervals refs c.self.inside.acked in
    let ts = placed_operations refs c.self.inside.pending.items in
    c.from_residual.ensures ∙ sym (ap (λ (e : Option (EndPair Place)). option_map (λ p. numbers_at xs last (end_places tree p)) e) c.in_err-ends.was)
    ∙ shows-numbers tree (interval_of n (shown_intervals xs is ts)) c.shown_ends.result c.shown_ends.ensures
    ∙ ap (λ (x : CollectionsState). numbers_of tree (interval_of n (shown_intervals xs (placed_intervals refs x.acked) (placed_operations refs x.pending))))
    c.self.view_is

pub returns : goal.returns
returns c =
    let tree = c.args.tree.now in
    let xs = text_elements tree in
    let refs = tree.refs in
    let n : Name = (c.args.label.now, c.args.id.now) in
    let is = placed_intervals refs c.self.inside.acked in
    let ts = placed_operations refs c.self.inside.pending.items in
    ap (λ (e : Ends). Some e) c.shown_numbers.ensures
    ∙ sym (ap (λ (e : Option (EndPair Place)). option_map (λ p. numbers_at xs last (end_places tree p)) e) c.in_ok-ends.was)
    ∙ shows-numbers tree (interval_of n (shown_intervals xs is ts)) c.shown_ends.result c.shown_ends.ensures
    ∙ ap (λ (x : CollectionsState). numbers_of tree (interval_of n (shown_intervals xs (placed_intervals refs x.acked) (placed_operations refs x.pending))))
    c.self.view_is
