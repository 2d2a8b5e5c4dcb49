use Rattle.std.proofs.Common.{map, sym, ◌∙◌, ap, subst}
use Rattle.std.proofs.lemmas.Result.{IfOk-weaker}
use Rattle.ft_interval_store.specs.Shown.{shown_from, shown_record}
use Rattle.ft_interval_store.specs.State.{CollectionsState, IsLive, placed_operations, text_elements}
use Rattle.ft_interval_store.proofs.KeptEnds.{live-operations}
use Rattle.ft_interval_store.proofs.store.Store.shown_behind.Goals as goal

pub shown_behind-requires-clause-pending : goal.shown_behind-requires-clause-pending
shown_behind-requires-clause-pending c =
    let old : CollectionsState = record { acked = c.self.inside.acked; pending = c.self.inside.pending.items } in
    live-operations c.args.tree.now.refs old (subst (λ x. IsLive c.args.tree.now.refs x) (sym c.self.view_is) c.requires.live)

pub returns : goal.returns
returns c = λ is h.
    let xs = text_elements c.args.tree.now in
    let refs = c.args.tree.now.refs in
    let same = ap (λ (x : CollectionsState). map (shown_record xs) (shown_from xs 0 (placed_operations refs x.pending) is)) c.self.view_is in
    IfOk-weaker c.shown_behind.result _ _ (λ all e. e ∙ same) (c.shown_behind.ensures is h)
