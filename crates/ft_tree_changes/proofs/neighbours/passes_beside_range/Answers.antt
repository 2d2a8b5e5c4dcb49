use Rattle.std.proofs.Common.{◌≤◌, arith}
use Rattle.ft_block.specs.declared.leaves.LenView.TheVariants.{All as AllElements}
use Rattle.ft_tree_leaves.specs.Elements.{seen_in}
use Rattle.ft_tree_leaves.specs.LeafLists.{elements}
use Rattle.ft_tree_changes.specs.StandingElements.{is_always_seen, is_standing}
use Rattle.ft_tree_changes.proofs.PassedSides.{pass-empty}
use Rattle.ft_tree_changes.proofs.RangeWalks.{front-fits}
use Rattle.ft_tree_changes.proofs.StandingWalks.{range-passes}
use Rattle.ft_tree_changes.proofs.neighbours.passes_beside_range.Goals as goal

pub returns-then-p-q : goal.returns-then-p-q
returns-then-p-q g c said =
    let empty : c.args.q ≤ c.args.p = omega (arith, c.if-p-q.true) in
    pass-empty (seen_in c.args.view) is_standing is_always_seen c.args.p c.args.q empty (elements g.C.Content.units g.C.Content.by
    c.args.tree.now.leaves)

pub passes_before-requires-clause-within : goal.passes_before-requires-clause-within
passes_before-requires-clause-within g c =
    let fits = front-fits g.C.Content.units g.C.Content.by c.args.tree.now.leaves c.first_leaf-first.ensures.once c.args.view AllElements c.args.p
    c.front_of-front.result c.front_of-front.ensures in
    omega (arith, fits.1)

pub returns : goal.returns
returns g c said =
    range-passes g.C.Content.units g.C.Content.by c.args.tree.now.leaves c.first_leaf-first.ensures.once c.args.view c.args.p c.args.q
    c.front_of-front.result c.front_of-front.ensures (c.passes_before.ensures c.if-not-passes_before.false) (c.passes_within.ensures said)
