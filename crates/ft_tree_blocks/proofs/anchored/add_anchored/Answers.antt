use Rattle.std.proofs.Common.{Option, Some, false, option_map, refl, ◌∙◌, ap}
use Rattle.std.proofs.lemmas.Bool.{cond-false, cond-true, eq-eqb, ne_eqb}
use Rattle.ft_refs.specs.declared.numbers.Place.{Place}
use Rattle.ft_tree_blocks.specs.Anchors.{is_acked_at, reference_on}
use Rattle.ft_tree_blocks.proofs.AnchoredLeaves.{reference_at-on}
use Rattle.ft_tree_blocks.proofs.AnchorChanges.{changed_references}
use Rattle.ft_tree_blocks.proofs.anchored.add_anchored.Goals as goal

pub returns-clause-fresh : goal.returns-clause-fresh
returns-clause-fresh g c =
    let us = g.C.Content.units in
    let by = g.C.Content.by in
    let xs = c.args.blocks.now.leaves in
    let a = c.args.refs.now.anchors in
    let r = c.in_ok-r.r in
    reference_at-on us by xs a r ∙ ap (λ (o : Option (Option Place)). option_map (reference_on us by xs (is_acked_at a r)) o) c.in_ok-r.ensures.fresh

pub returns-clause-added : goal.returns-clause-added
returns-clause-added g c =
    let us = g.C.Content.units in
    let by = g.C.Content.by in
    let xs = c.args.blocks.now.leaves in
    let a = c.args.refs.now.anchors in
    let r = c.in_ok-r.r in
    changed_references us by xs a c.requires.sound.anchored r (Some (Some c.args.at.now)) false c.add.new.self c.in_ok-r.ensures.added r
    ∙ cond-true _ _ _ (eq-eqb r r refl)

pub returns-clause-others : goal.returns-clause-others
returns-clause-others g c = λ x d.
    let us = g.C.Content.units in
    let by = g.C.Content.by in
    let xs = c.args.blocks.now.leaves in
    let a = c.args.refs.now.anchors in
    let r = c.in_ok-r.r in
    changed_references us by xs a c.requires.sound.anchored r (Some (Some c.args.at.now)) false c.add.new.self c.in_ok-r.ensures.added x
    ∙ cond-false _ _ _ (ne_eqb x r d)
