use Rattle.std.proofs.Common.{◌≡◌, ℕ, Option, not, false, subst, sym, ◌∙◌, ap}
use Rattle.ft_base.specs.Visibility.{is_acked}
use Rattle.ft_block.specs.declared.leaves.LenView.TheVariants.{All as AllElements}
use Rattle.ft_block.specs.Leaves.{IsLeafIn, IsPlaceIn}
use Rattle.ft_tree_leaves.specs.Elements.{is_pending, seen_in}
use Rattle.ft_changes.specs.ShownRuns.{shown_in_run}
use Rattle.ft_tree_changes.proofs.LeafWalks.{held_from}
use Rattle.ft_tree_changes.proofs.StandingWalks.{no-run-at}
use Rattle.ft_tree_changes.proofs.neighbours.passes_from.Goals as goal

pub returns-clause-run : goal.returns-clause-run
returns-clause-run g c said =
    let us = g.C.Content.units in
    let by = g.C.Content.by in
    let xs = c.args.tree.now.leaves in
    let id = c.in-Some.id in
    let live : IsLeafIn xs id = subst (IsPlaceIn xs) c.in-Some.is c.requires.live in
    let acked : not (is_acked c.leaf_element.result.now.ins) ≡ false = sym c.is_pending.ensures ∙ c.if-is_pending.false in
    ap (λ (o : Option ℕ). shown_in_run (is_pending {U = g.row.C-Unit.Denot}) (seen_in AllElements) (held_from us by xs o)) c.in-Some.is
    ∙ no-run-at us by xs c.first_leaf-first.ensures.once id live c.leaf_element.result.now c.leaf_element.ensures c.first_leaf-first.ensures.some
    acked
