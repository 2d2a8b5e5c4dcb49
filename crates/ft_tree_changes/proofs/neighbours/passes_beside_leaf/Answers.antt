use Rattle.std.proofs.Common.{◌≤◌, subst, sym, ◌∙◌, ap, arith}
use Rattle.ft_block.specs.declared.leaves.LenView.TheVariants.{All as AllElements}
use Rattle.ft_block.specs.Leaves.{IsPlaceIn}
use Rattle.ft_tree_leaves.specs.Elements.{is_pending, seen_in}
use Rattle.ft_tree_blocks.proofs.Walks.{after_in_place}
use Rattle.ft_changes.specs.Beside.{first_passes}
use Rattle.ft_changes.specs.ShownRuns.{shown_in_run}
use Rattle.ft_tree_changes.specs.StandingElements.{is_always_seen, is_standing}
use Rattle.ft_tree_changes.proofs.StandingWalks.{behind-leaf, free-inside}
use Rattle.ft_tree_changes.proofs.neighbours.passes_beside_leaf.Goals as goal

pub returns-then-offset-leaf_len : goal.returns-then-offset-leaf_len
returns-then-offset-leaf_len g c said =
    free-inside g.C.Content.units g.C.Content.by c.args.tree.now.leaves c.first_leaf-first.ensures.once c.args.id c.requires.live
    c.leaf_element.result.now c.leaf_element.ensures c.args.offset c.requires.held c.leaf_len.result c.leaf_len.ensures.value
    (omega (arith, c.if-offset-leaf_len.true)) (sym c.is_always_seen.ensures ∙ said)

pub passes_from-requires-clause-live : goal.passes_from-requires-clause-live
passes_from-requires-clause-live g c = subst (IsPlaceIn c.args.tree.now.leaves) (sym c.next_leaf.ensures)
    (after_in_place c.args.tree.now.leaves c.args.id)

pub returns : goal.returns
returns g c said =
    let full : c.leaf_len.result ≤ c.args.offset = omega (arith, c.if-offset-leaf_len.false) in
    let behind = behind-leaf g.C.Content.units g.C.Content.by c.args.tree.now.leaves c.first_leaf-first.ensures.once c.args.id c.requires.live
    c.args.offset c.requires.held c.leaf_len.result c.leaf_len.ensures.value full c.next_leaf.result c.next_leaf.ensures in
    record {
      no_run = ap (shown_in_run (is_pending {U = g.row.C-Unit.Denot}) (seen_in AllElements)) behind
          ∙ c.passes_from.ensures.run c.if-not-passes_from.false;
      before = c.passes_up_to.ensures said;
      behind = ap (first_passes is_standing is_always_seen) behind ∙ c.passes_from.ensures.first c.if-not-passes_from.false;
    }
