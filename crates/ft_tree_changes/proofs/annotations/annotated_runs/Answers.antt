use Rattle.std.proofs.Common.{◌≤◌, sym, ◌∙◌, arith}
use Rattle.ft_sumdoc.specs.WellFormed.{same_props}
use Rattle.ft_tree_leaves.specs.Elements.{seen_in, with_overlay}
use Rattle.ft_tree_leaves.specs.LeafLists.{elements}
use Rattle.ft_tree_changes.specs.ShownOverlays.{annotated, shown_of_element}
use Rattle.ft_tree_changes.proofs.WalkedRuns.{changed-empty}
use Rattle.ft_tree_changes.proofs.annotations.annotated_runs.Goals as goal

pub returns-then-p-q : goal.returns-then-p-q
returns-then-p-q g c =
    let empty : c.args.q ≤ c.args.p = omega (arith, c.if-p-q.true) in
    let all = elements g.C.Content.units g.C.Content.by c.args.tree.now.leaves in
    c.new.ensures.items
    ∙ sym (changed-empty (seen_in c.args.view) (seen_in c.args.shown) c.args.p c.args.q empty same_props shown_of_element
    (with_overlay (annotated c.args.annotation)) 0 0 all)
