use Rattle.std.proofs.Common.{ℕ, sym, ◌∙◌}
use Rattle.std.proofs.lemmas.Result.{IfOk-weaker}
use Rattle.ft_props.specs.Overlay.{after_pending_changes}
use Rattle.ft_sumdoc.specs.WellFormed.{same_props}
use Rattle.ft_tree_leaves.specs.Elements.{TreeElement, seen_in, with_overlay}
use Rattle.ft_tree_leaves.specs.LeafLists.{elements}
use Rattle.ft_tree_changes.specs.ShownOverlays.{shown_of_element}
use Rattle.ft_tree_changes.proofs.RangeWalks.{changed_runs-alike, shown-on_top}
use Rattle.ft_tree_changes.proofs.annotations.changed_runs_at_stage.Goals as goal

pub returns : goal.returns
returns g c =
    let all = elements g.C.Content.units g.C.Content.by c.args.tree.now.leaves in
    let set = c.args.changes.now in
    IfOk-weaker c.annotated_runs.result _ _
    (λ runs made (stage : ℕ). made
    ∙ changed_runs-alike same_props shown_of_element (with_overlay (after_pending_changes 0 set)) (with_overlay (after_pending_changes stage set))
    (λ (e : TreeElement g.row.C-Unit.Denot). shown-on_top 0 set e.overlay ∙ sym (shown-on_top stage set e.overlay)) (seen_in c.args.view)
    (seen_in c.args.shown) c.args.p c.args.q 0 0 all)
    c.annotated_runs.ensures
