use Rattle.std.proofs.Common.{◌≡◌, ◌+◌, true, reverse, take, sym, ◌∙◌, ap, arith}
use Rattle.ft_block.specs.Leaves.{left_of}
use Rattle.ft_tree_leaves.specs.LeafLists.{elements}
use Rattle.ft_changes.specs.Beside.{first_passes}
use Rattle.ft_tree_changes.specs.StandingElements.{is_always_seen, is_standing, stamps_always_seen}
use Rattle.ft_tree_changes.proofs.PassedSides.{len-all}
use Rattle.ft_tree_changes.proofs.StandingWalks.{seen-stands, up_to-at, within-all}
use Rattle.ft_tree_changes.proofs.neighbours.passes_up_to.Goals as goal

pub returns-then-is_always_seen : goal.returns-then-is_always_seen
returns-then-is_always_seen g c said =
    let e = c.leaf_element.result.now in
    let seen : stamps_always_seen e ≡ true = sym c.is_always_seen.ensures ∙ c.if-is_always_seen.true in
    up_to-at g.C.Content.units g.C.Content.by c.args.tree.now.leaves c.first_leaf-first.ensures.once c.args.id c.requires.live e
    c.leaf_element.ensures
    c.args.offset c.requires.held (seen-stands e seen).0
    ∙ seen

pub overflow_add-position_of : goal.overflow_add-position_of
overflow_add-position_of g c =
    let us = g.C.Content.units in
    let by = g.C.Content.by in
    let xs = c.args.tree.now.leaves in
    omega (
      arith,
      c.position_of.ensures,
      len-all (elements us by (left_of xs c.args.id)),
      within-all us by xs c.first_leaf-first.ensures.once c.args.id c.requires.live c.args.offset c.requires.held,
      c.first_leaf-first.ensures.few,
    )

pub passes_before-requires-clause-within : goal.passes_before-requires-clause-within
passes_before-requires-clause-within g c =
    let us = g.C.Content.units in
    let by = g.C.Content.by in
    let xs = c.args.tree.now.leaves in
    omega (
      arith,
      c.position_of.ensures,
      len-all (elements us by (left_of xs c.args.id)),
      within-all us by xs c.first_leaf-first.ensures.once c.args.id c.requires.live c.args.offset c.requires.held,
    )

pub returns : goal.returns
returns g c said =
    let us = g.C.Content.units in
    let by = g.C.Content.by in
    let xs = c.args.tree.now.leaves in
    let before = c.position_of.ensures ∙ len-all (elements us by (left_of xs c.args.id)) in
    ap (λ n. first_passes is_standing is_always_seen (reverse (take (n + c.args.offset) (elements us by xs)))) (sym before)
    ∙ c.passes_before.ensures said
