use Rattle.std.proofs.Common.{ℕ, ◌+◌, length, option_map, subst, sym, ◌∙◌, ap, arith}
use Rattle.std.specs.List.{prefix_len}
use Rattle.ft_block.specs.Leaves.{IsPlaceIn, LeafList}
use Rattle.ft_tree_leaves.specs.declared.leaves.TreeLeaf.{TreeLeaf}
use Rattle.ft_tree_leaves.specs.Edits.{up_to_place, with_place}
use Rattle.ft_tree_leaves.specs.LeafLists.{elements}
use Rattle.ft_tree_leaves.specs.Places.{shifted_place}
use Rattle.ft_tree_leaves.specs.Plain.{passes}
use Rattle.ft_tree_leaves.specs.References.{reference_at}
use Rattle.ft_tree_leaves.proofs.LeafRuns.{length-elements}
use Rattle.ft_tree_blocks.specs.Walks.{from_place, node_behind}
use Rattle.ft_tree_steps.proofs.CutPlaces.{puts_behind}
use Rattle.ft_tree_steps.proofs.cuts.put_past.Goals as goal

pub insert_after-requires-clause-fits : goal.insert_after-requires-clause-fits
insert_after-requires-clause-fits g c = omega (arith, length-elements g.C.Content.units g.C.Content.by c.args.blocks.now.leaves, c.requires.fits)

pub returns-clause-puts : goal.returns-clause-puts
returns-clause-puts g c =
    let us = g.C.Content.units in
    let by = g.C.Content.by in
    let xs = c.args.blocks.now.leaves in
    let at = c.args.at in
    let end = c.behind_run-end.result in
    let live : IsPlaceIn xs end = subst (λ (l : LeafList (TreeLeaf g.row.C.Denot)). IsPlaceIn l.leaves end) c.list.ensures c.behind_run-end.ensures.live in
    let run = ap (λ (l : LeafList (TreeLeaf g.row.C.Denot)). length (elements us by (up_to_place l.leaves end))) (sym c.list.ensures)
    ∙ c.behind_run-end.ensures.run
    ∙ ap (λ (l : LeafList (TreeLeaf g.row.C.Denot)). length (elements us by (up_to_place l.leaves at))
    + prefix_len (passes c.args.past_pending) (elements us by (from_place l.leaves (node_behind l.leaves at)))) c.list.ensures in
    puts_behind us by xs c.insert_after.new.self.leaves end c.in_ok-_id._id
    (length (elements us by (up_to_place xs at)) + prefix_len (passes c.args.past_pending) (elements us by (from_place xs (node_behind xs at))))
    c.args.leaf c.first-first.ensures.once live c.in_ok-_id.ensures.ok (sym run)

pub returns-clause-refs : goal.returns-clause-refs
returns-clause-refs g c = λ r.
    let us = g.C.Content.units in
    let by = g.C.Content.by in
    let xs = c.args.blocks.now.leaves in
    let at = c.args.at in
    let end = c.behind_run-end.result in
    let run = ap (λ (l : LeafList (TreeLeaf g.row.C.Denot)). length (elements us by (up_to_place l.leaves end))) (sym c.list.ensures)
    ∙ c.behind_run-end.ensures.run
    ∙ ap (λ (l : LeafList (TreeLeaf g.row.C.Denot)). length (elements us by (up_to_place l.leaves at))
    + prefix_len (passes c.args.past_pending) (elements us by (from_place l.leaves (node_behind l.leaves at)))) c.list.ensures in
    c.in_ok-_id.ensures.refs r
    ∙ ap (λ (i : ℕ). option_map (with_place (shifted_place i (length (us c.args.leaf.content)))) (reference_at c.args.blocks.now.refs r)) run
