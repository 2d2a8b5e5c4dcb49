use Rattle.std.proofs.Common.{◌++◌, [], None, refl, ap, subst, sym, ◌∙◌}
use Rattle.std.proofs.lemmas.Result.{on_ok_weaker}
use Rattle.ft_base.specs.declared.elements.Element.{Element as ElementStamps}
use Rattle.ft_base.specs.Visibility.{is_of_stage}
use Rattle.ft_tree_leaves.specs.Elements.{elements_with}
use Rattle.ft_perm.specs.Handles.{handles_of}
use Rattle.ft_perm.specs.contracts.vectors.Vector.{the_view}
use Rattle.ft_matrix.specs.Splices.{TakesRun}
use Rattle.ft_matrix.specs.Units.{units_of}
use Rattle.ft_matrix.proofs.LoadedUnits.{append-loads, append-sound}
use Rattle.ft_matrix.proofs.SoundVectors.{ok-with, run-fits}
use Rattle.ft_matrix.proofs.summaries.load_run.Goals as goal

pub append-requires-clause-made : goal.append-requires-clause-made
append-requires-clause-made c = run-fits c.args.run.now.count c.in_ok-content.content c.args.units.now (the_view c.units.inside)
    (subst (λ v. TakesRun c.args.run.now.count c.in_ok-content.content c.args.units.now v) (sym c.units.view_is) c.in_ok-content.ensures)

pub returns-clause-sound : goal.returns-clause-sound
returns-clause-sound c =
    let t = subst (λ v. TakesRun c.args.run.now.count c.in_ok-content.content c.args.units.now v) (sym c.units.view_is) c.in_ok-content.ensures in
    let later = ap (λ (z : ElementStamps). is_of_stage 0 z.ins) c.in_ok-stamps.ensures in
    let none = ap (λ ps. units_of (the_view c.units.inside) ++ elements_with c.in_ok-stamps.stamps None (record { acked = ps; pending = [] }) (handles_of c.in_ok-content.content))
    c.new-props.ensures in
    ok-with _ c.append.result c.append.ensures.elements (λ e. ok-with _ c.append.result c.append.ensures.refs (λ f. ok-with _ c.append.result c.append.ensures.rest (λ g.
    on_ok_weaker c.append.result (λ m. append-sound c.args.units.now (the_view c.units.inside) _ c.requires.sound c.in_ok-content.content c.args.run.now.count t
    c.in_ok-stamps.stamps later refl (e ∙ none) f g m) c.append.ensures.made)))

pub returns-clause-loads : goal.returns-clause-loads
returns-clause-loads c =
    let t = subst (λ v. TakesRun c.args.run.now.count c.in_ok-content.content c.args.units.now v) (sym c.units.view_is) c.in_ok-content.ensures in
    let later = ap (λ (z : ElementStamps). is_of_stage 0 z.ins) c.in_ok-stamps.ensures in
    let none = ap (λ ps. units_of (the_view c.units.inside) ++ elements_with c.in_ok-stamps.stamps None (record { acked = ps; pending = [] }) (handles_of c.in_ok-content.content))
    c.new-props.ensures in
    ok-with _ c.append.result c.append.ensures.elements (λ e. ok-with _ c.append.result c.append.ensures.refs (λ f. ok-with _ c.append.result c.append.ensures.rest (λ g.
    on_ok_weaker c.append.result (λ m. append-loads c.args.units.now (the_view c.units.inside) _ c.requires.sound c.in_ok-content.content c.args.run.now.count t
    c.in_ok-stamps.stamps later refl (e ∙ none) f g m c.args.run.now c.in_ok-stamps.ensures refl) c.append.ensures.made)))
