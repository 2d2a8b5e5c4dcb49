use Rattle.std.proofs.Common.{sym, ap, subst}
use Rattle.std.proofs.lemmas.Result.{on_ok_weaker}
use Rattle.std.specs.Prelude.{IfErr}
use Rattle.ft_base.specs.Scan.{len}
use Rattle.ft_block.specs.declared.leaves.LenView.TheVariants.{Stage}
use Rattle.ft_tree_leaves.specs.Elements.{seen_in}
use Rattle.ft_interval_store.specs.Intervals.{name_in}
use Rattle.ft_interval_store.specs.State.{CollectionsState, IsAsBefore, IsRefusedEdit, is_shown, placed, text_elements}
use Rattle.ft_interval.specs.State.{IndexedState, StandsOn}
use Rattle.ft_interval.proofs.OnIntervals.{delete-is-on-intervals}
use Rattle.ft_interval.proofs.StandsSteps.{stands-kept}
use Rattle.ft_interval.proofs.collections.Collections.delete_local.Goals as goal

pub edit_local-requires-clause-live : goal.edit_local-requires-clause-live
edit_local-requires-clause-live c = (subst (λ (x : IndexedState). StandsOn c.args.tree.now x) (sym c.self.view_is) c.requires.stands).live

pub edit_local-requires-clause-kind : goal.edit_local-requires-clause-kind
edit_local-requires-clause-kind c = delete-is-on-intervals c.args.op.now c.requires.kind

pub returns-clause-stands : goal.returns-clause-stands
returns-clause-stands c =
    let s = subst (λ (x : IndexedState). StandsOn c.args.tree.now x) (sym c.self.view_is) c.requires.stands in
    on_ok_weaker c.edit_local.result (λ p. stands-kept c.args.tree.now c.edit_local.new.tree c.self.inside.store c.edit_local.new.self
    c.self.inside.indexes
    c.edit_local.ensures.acked (ap (λ (x : CollectionsState). x.acked) p.pending) p.rest p.refs.live s.listed) c.edit_local.ensures.taken

pub returns-clause-refused : goal.returns-clause-refused
returns-clause-refused c =
    let tree = c.args.tree.now in
    let xs = text_elements tree in
    subst (λ (x : IndexedState). IfErr c.edit_local.result (IsRefusedEdit (is_shown xs (name_in c.args.op.now) (placed tree.refs x.state)) (len (seen_in (Stage c.args.stage)) xs) c.args.op.now
    (IsAsBefore x.state c.edit_local.new.self tree c.edit_local.new.tree))) c.self.view_is c.edit_local.ensures.refused
