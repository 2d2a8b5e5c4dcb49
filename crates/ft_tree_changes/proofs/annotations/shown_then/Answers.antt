use Rattle.std.proofs.Common.{sym, ◌∙◌, ap}
use Rattle.std.proofs.lemmas.Result.{IfOk-weaker}
use Rattle.ft_props.specs.Overlay.{shown_of}
use Rattle.ft_props.specs.Properties.{change}
use Rattle.ft_tree_changes.specs.ShownOverlays.{annotated}
use Rattle.ft_tree_changes.proofs.RangeWalks.{shown-on_top}
use Rattle.ft_tree_changes.proofs.annotations.shown_then.Goals as goal

pub returns-in-Pending : goal.returns-in-Pending
returns-in-Pending c =
    let set = c.in-Pending.changes.now in
    let overlay = c.args.overlay.now in
    IfOk-weaker c.changed.result _ _
    (λ props made. made
    ∙ ap (λ o. change o set) c.shown_props.ensures
    ∙ sym (shown-on_top 0 set overlay)
    ∙ ap (λ a. shown_of (annotated a overlay)) (sym c.in-Pending.is))
    c.changed.ensures
