use Rattle.std.proofs.Common.{[], append-nil, refl, subst, sym, ap}
use Rattle.ft_arena.specs.Ids.{after}
use Rattle.ft_block.specs.Leaves.{IsPlaceIn, ids}
use Rattle.ft_tree_leaves.specs.Elements.{seen_in}
use Rattle.ft_tree_leaves.specs.LeafLists.{elements}
use Rattle.ft_tree_blocks.specs.Skips.{Skips}
use Rattle.ft_tree_blocks.specs.Walks.{before_place}
use Rattle.ft_tree_blocks.proofs.Walks.{after_in_place}
use Rattle.ft_tree_steps.proofs.ranges.leaf_to_edit.Goals as goal

pub next_standing-requires-clause-place : goal.next_standing-requires-clause-place
next_standing-requires-clause-place g c =
    let xs = c.args.blocks.now.leaves in
    subst (λ zs. IsPlaceIn zs c.next-next.result) (ap (λ list. list.leaves) (sym c.list.ensures))
    (subst (IsPlaceIn xs) (sym c.next-next.ensures) (after_in_place xs c.args.id))

pub returns-then-n-eq0-clause-live : goal.returns-then-n-eq0-clause-live
returns-then-n-eq0-clause-live g c =
    subst (λ zs. IsPlaceIn zs c.next_standing.result) (ap (λ list. list.leaves) c.list.ensures) c.next_standing.ensures.live

pub returns-then-n-eq0-clause-skips : goal.returns-then-n-eq0-clause-skips
returns-then-n-eq0-clause-skips g c =
    let us = g.C.Content.units in
    let by = g.C.Content.by in
    let seen = seen_in {U = g.row.C-Unit.Denot} c.args.view in
    let xs = c.args.blocks.now.leaves in
    let found : Skips us by seen xs c.next-next.result c.next_standing.result =
    subst (λ zs. Skips us by seen zs c.next-next.result c.next_standing.result) (ap (λ list. list.leaves) c.list.ensures)
    c.next_standing.ensures.skips in
    subst (λ at. Skips us by seen xs at c.next_standing.result) c.next-next.ensures found

pub returns-clause-live : goal.returns-clause-live
returns-clause-live g c =
    let xs = c.args.blocks.now.leaves in
    subst (IsPlaceIn xs) (sym c.next-next.ensures) (after_in_place xs c.args.id)

pub returns-clause-skips : goal.returns-clause-skips
returns-clause-skips g c =
    let us = g.C.Content.units in
    let by = g.C.Content.by in
    let xs = c.args.blocks.now.leaves in
    let next = after (ids xs) c.args.id in
    let none : Skips us by (seen_in {U = g.row.C-Unit.Denot} c.args.view) xs next next =
    record { es = []; none = refl; before = sym (append-nil (elements us by (before_place xs next))); rest = refl } in
    subst (Skips us by (seen_in {U = g.row.C-Unit.Denot} c.args.view) xs next) (sym c.next-next.ensures) none
