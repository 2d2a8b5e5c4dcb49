use Rattle.std.proofs.Common.{◌+◌, Some, subst, sym, ◌∙◌, ap, arith}
use Rattle.ft_tree_leaves.specs.declared.leaves.Standing.TheVariants.{SeenIn}
use Rattle.ft_tree_leaves.specs.Settling.{stands}
use Rattle.ft_tree_blocks.specs.Skips.{Skips}
use Rattle.ft_tree_blocks.proofs.SkippedLeaves.{next_found, next_none, seen_room}
use Rattle.ft_tree_blocks.proofs.finds.next_seen.Goals as goal

pub overflow_add-before : goal.overflow_add-before
overflow_add-before g c =
    let us = g.C.Content.units in
    let by = g.C.Content.by in
    let xs = c.args.blocks.now.leaves in
    omega (
      arith,
      c.position_of-before.ensures,
      seen_room us by c.args.view xs c.args.id c.first-first.ensures.once c.first-first.ensures.some c.requires.live,
      c.first-first.ensures.few,
    )

pub returns-in_err-found-clause-skips : goal.returns-in_err-found-clause-skips
returns-in_err-found-clause-skips g c =
    let us = g.C.Content.units in
    let by = g.C.Content.by in
    let xs = c.args.blocks.now.leaves in
    let next = next_none us by c.args.view xs c.args.id c.first-first.ensures.once (c.position_of-before.result + 1) (ap (λ n. n + 1)
    c.position_of-before.ensures)
    (sym c.find_leaf.ensures ∙ c.in_err-found.was) in
    subst (λ o. Skips us by (stands (SeenIn c.args.view)) xs (Some c.args.id) o) (sym c.from_residual.ensures) next.skips

pub returns-clause-live : goal.returns-clause-live
returns-clause-live g c =
    (next_found g.C.Content.units g.C.Content.by c.args.view c.args.blocks.now.leaves c.args.id c.first-first.ensures.once
    (c.position_of-before.result + 1)
    c.in_ok-found.found (ap (λ n. n + 1) c.position_of-before.ensures) (sym c.find_leaf.ensures ∙ c.in_ok-found.was)).live

pub returns-clause-stands : goal.returns-clause-stands
returns-clause-stands g c =
    (next_found g.C.Content.units g.C.Content.by c.args.view c.args.blocks.now.leaves c.args.id c.first-first.ensures.once
    (c.position_of-before.result + 1)
    c.in_ok-found.found (ap (λ n. n + 1) c.position_of-before.ensures) (sym c.find_leaf.ensures ∙ c.in_ok-found.was)).stands

pub returns-clause-skips : goal.returns-clause-skips
returns-clause-skips g c =
    (next_found g.C.Content.units g.C.Content.by c.args.view c.args.blocks.now.leaves c.args.id c.first-first.ensures.once
    (c.position_of-before.result + 1)
    c.in_ok-found.found (ap (λ n. n + 1) c.position_of-before.ensures) (sym c.find_leaf.ensures ∙ c.in_ok-found.was)).skips
