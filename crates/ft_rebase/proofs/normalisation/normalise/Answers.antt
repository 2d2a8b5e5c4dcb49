use Rattle.std.proofs.Common.{List, filter, map, option_map, subst, sym, ◌∙◌, ap}
use Rattle.ft_base.specs.declared.elements.Element.{Element as ElementStamps}
use Rattle.ft_tree_leaves.specs.Edits.{with_place}
use Rattle.ft_tree_leaves.specs.Elements.{TreeElement}
use Rattle.ft_tree_leaves.specs.LeafLists.{elements}
use Rattle.ft_tree_leaves.specs.References.{reference_at}
use Rattle.ft_rebase.specs.Moves.{leaf_stamps}
use Rattle.ft_rebase.specs.Normalised.{unmarked_element}
use Rattle.ft_rebase.specs.RebuiltPlaces.{rebuilt_place}
use Rattle.ft_rebase.specs.StageLists.{StagesUpTo, StandSideBySide, sequenced, with_stages}
use Rattle.ft_rebase.proofs.CarriedLeaves.{elements-carried, sequenced-carried, spots_carried}
use Rattle.ft_rebase.proofs.MovedSpots.{rest_more, spots_more}
use Rattle.ft_rebase.proofs.UnmarkedLists.{same-places, unmarked-place, unmarked-rebuilt, unmarked-side, unmarked-up_to}
use Rattle.ft_rebase.proofs.normalisation.normalise.Goals as goal

pub move_stages-requires-clause-side : goal.move_stages-requires-clause-side
move_stages-requires-clause-side g c =
    let us = g.C.Content.units in
    let by = g.C.Content.by in
    let xs = c.args.tree.now.leaves in
    let list = ap (elements us by) c.in-Ok.ensures.leaves ∙ elements-carried us by xs in
    subst (λ (es : List (TreeElement g.row.C-Unit.Denot)). StandSideBySide (λ e. e.stamps) es) (sym list)
    (unmarked-side (elements us by xs) c.requires.side)

pub returns-in-Ok-move_stages-clause-elements : goal.returns-in-Ok-move_stages-clause-elements
returns-in-Ok-move_stages-clause-elements g c last h =
    let us = g.C.Content.units in
    let by = g.C.Content.by in
    let xs = c.args.tree.now.leaves in
    let list = ap (elements us by) c.in-Ok.ensures.leaves ∙ elements-carried us by xs in
    let stages = subst (λ (es : List (TreeElement g.row.C-Unit.Denot)). StagesUpTo (λ e. e.stamps) last es) (sym list)
    (unmarked-up_to (elements us by xs) last h) in
    (c.in-Ok-move_stages.ensures.moves last stages).list
    ∙ ap (λ (es : List (TreeElement g.row.C-Unit.Denot)). with_stages (λ e. e.stamps) es (filter (sequenced (λ e. e.stamps)) es) last) list
    ∙ unmarked-rebuilt (elements us by xs) last

pub returns-in-Ok-move_stages-clause-nodes : goal.returns-in-Ok-move_stages-clause-nodes
returns-in-Ok-move_stages-clause-nodes g c =
    c.in-Ok-move_stages.ensures.nodes
    ∙ ap (filter (sequenced leaf_stamps)) c.in-Ok.ensures.leaves
    ∙ sequenced-carried c.args.tree.now.leaves

pub returns-in-Ok-move_stages-clause-refs : goal.returns-in-Ok-move_stages-clause-refs
returns-in-Ok-move_stages-clause-refs g c =
    spots_more
    (spots_carried g.C.Content.units c.args.tree.now c.carry_leaves.new.tree c.in-Ok.ensures.leaves c.in-Ok.ensures.refs)
    c.in-Ok-move_stages.ensures.refs

pub returns-in-Ok-move_stages-clause-rest : goal.returns-in-Ok-move_stages-clause-rest
returns-in-Ok-move_stages-clause-rest g c = rest_more c.in-Ok.ensures.stays.rest c.in-Ok-move_stages.ensures.stays.rest

pub returns-in-Ok-move_stages-clause-places : goal.returns-in-Ok-move_stages-clause-places
returns-in-Ok-move_stages-clause-places g c last h = λ r.
    let us = g.C.Content.units in
    let by = g.C.Content.by in
    let st : TreeElement g.row.C-Unit.Denot → ElementStamps = λ e. e.stamps in
    let xs = c.args.tree.now.leaves in
    let list = ap (elements us by) c.in-Ok.ensures.leaves ∙ elements-carried us by xs in
    let stages = subst (λ (es : List (TreeElement g.row.C-Unit.Denot)). StagesUpTo st last es) (sym list)
    (unmarked-up_to (elements us by xs) last h) in
    (c.in-Ok-move_stages.ensures.moves last stages).places r
    ∙ ap (λ (es : List (TreeElement g.row.C-Unit.Denot)). option_map (with_place (rebuilt_place st last es)) (reference_at c.carry_leaves.new.tree.refs r)) list
    ∙ ap (option_map (with_place (rebuilt_place st last (map unmarked_element (elements us by xs))))) (c.in-Ok.ensures.refs r)
    ∙ same-places (rebuilt_place st last (map unmarked_element (elements us by xs))) (rebuilt_place st last (elements us by xs))
    (unmarked-place (elements us by xs) last) (reference_at c.args.tree.now.refs r)

pub returns-in-Ok-move_stages-clause-made : goal.returns-in-Ok-move_stages-clause-made
returns-in-Ok-move_stages-clause-made g c = c.in-Ok-move_stages.ensures.stays.made ∙ c.in-Ok.ensures.stays.made
