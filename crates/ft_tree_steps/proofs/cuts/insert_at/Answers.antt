use Rattle.std.proofs.Common.{◌≡◌, ℕ, ◌+◌, ◌++◌, length, option_map, take, drop, ◌∙◌, ap, arith, length-append}
use Rattle.std.proofs.lemmas.List.{take-append-drop}
use Rattle.std.specs.List.{prefix_len}
use Rattle.ft_tree_leaves.specs.declared.leaves.TreeLeaf.{TreeLeaf}
use Rattle.ft_tree_leaves.specs.LeafLists.{elements, leaf_elements}
use Rattle.ft_tree_leaves.specs.Edits.{up_to_place, with_place}
use Rattle.ft_tree_leaves.specs.Elements.{seen_in}
use Rattle.ft_tree_leaves.specs.Places.{put_place, shifted_place}
use Rattle.ft_tree_leaves.specs.Plain.{passes}
use Rattle.ft_tree_leaves.specs.References.{reference_at}
use Rattle.ft_tree_leaves.proofs.LeafRuns.{length-leaf}
use Rattle.ft_tree_leaves.proofs.RangeLeaves.{extends_trans}
use Rattle.ft_base.specs.Scan.{put}
use Rattle.ft_block.specs.Leaves.{ids}
use Rattle.ft_tree_blocks.specs.Walks.{from_place, node_behind}
use Rattle.ft_tree_steps.specs.LeafSteps.{held_place}
use Rattle.ft_tree_steps.proofs.CutPlaces.{puts_elements, puts_old, rest_behind}
use Rattle.ft_tree_steps.proofs.cuts.insert_at.Goals as goal

pub put_past-requires : goal.put_past-requires
put_past-requires g c = record {
  usable = c.in_ok-at.ensures.usable;
  live = c.in_ok-at.ensures.cut.live;
  fits = omega (
    arith,
    ap length c.in_ok-at.ensures.cut.list,
    ap (λ (l : TreeLeaf g.row.C.Denot). length (g.C.Content.units l.content)) c.in_ok-leaf.ensures,
    c.requires.fits,
  );
  settled = ap (λ (l : TreeLeaf g.row.C.Denot). l.overlay.pending) c.in_ok-leaf.ensures;
}

pub returns-clause-list : goal.returns-clause-list
returns-clause-list g c = λ view p e.
    let us = g.C.Content.units in
    let by = g.C.Content.by in
    let xs = c.args.blocks.now.leaves in
    let mid = c.cut_at.new.blocks.leaves in
    let now = c.put_past.new.blocks.leaves in
    let cut = c.in_ok-at.ensures.cut in
    let at = c.in_ok-at.at in
    let i = length (elements us by (up_to_place mid at)) + prefix_len (passes c.args.past_pending) (elements us by (from_place mid (node_behind mid at))) in
    let n = held_place us by xs c.args.found.now.leaf c.args.found.now.offset in
    let seen = seen_in {U = g.row.C-Unit.Denot} view in
    let place : i ≡ n + prefix_len (passes c.args.past_pending) (drop n (elements us by xs)) =
    omega (arith, cut.place, ap (prefix_len (passes c.args.past_pending)) (rest_behind us by n xs mid at c.first-first.ensures.once cut)) in
    puts_elements us by seen (passes c.args.past_pending) p n i c.in_ok-leaf.leaf xs now
    (puts_old us by n i c.in_ok-leaf.leaf xs mid now c.in_ok-at.at cut c.in_ok-put_past.ensures.puts) e place
    ∙ ap (λ (l : TreeLeaf g.row.C.Denot). put seen (passes c.args.past_pending) p (leaf_elements us by l) (elements us by xs)) c.in_ok-leaf.ensures

pub returns-clause-nodes : goal.returns-clause-nodes
returns-clause-nodes g c =
    extends_trans (ids c.args.blocks.now.leaves) (ids c.cut_at.new.blocks.leaves) (ids c.put_past.new.blocks.leaves) c.in_ok-at.ensures.cut.nodes
    c.in_ok-put_past.ensures.puts.nodes

pub returns-clause-reads : goal.returns-clause-reads
returns-clause-reads g c = omega (arith, c.in_ok-put_past.ensures.reads, c.in_ok-at.ensures.cut.pending)

pub returns-clause-count : goal.returns-clause-count
returns-clause-count g c =
    let us = g.C.Content.units in
    let by = g.C.Content.by in
    let xs = c.args.blocks.now.leaves in
    let mid = c.cut_at.new.blocks.leaves in
    let es = elements us by mid in
    let at = c.in_ok-at.at in
    let i = length (elements us by (up_to_place mid at)) + prefix_len (passes c.args.past_pending) (elements us by (from_place mid (node_behind mid at))) in
    let leaf = c.in_ok-leaf.leaf in
    omega (
      arith,
      ap length c.in_ok-put_past.ensures.puts.list,
      length-append (take i es) (leaf_elements us by leaf ++ drop i es),
      length-append (leaf_elements us by leaf) (drop i es),
      length-leaf us by leaf,
      ap (λ (l : TreeLeaf g.row.C.Denot). length (us l.content)) c.in_ok-leaf.ensures,
      length-append (take i es) (drop i es),
      ap length (take-append-drop i es),
      ap length c.in_ok-at.ensures.cut.list,
    )

pub returns-clause-refs : goal.returns-clause-refs
returns-clause-refs g c = λ view p e r.
    let us = g.C.Content.units in
    let by = g.C.Content.by in
    let xs = c.args.blocks.now.leaves in
    let mid = c.cut_at.new.blocks.leaves in
    let cut = c.in_ok-at.ensures.cut in
    let at = c.in_ok-at.at in
    let i = length (elements us by (up_to_place mid at)) + prefix_len (passes c.args.past_pending) (elements us by (from_place mid (node_behind mid at))) in
    let seen = seen_in {U = g.row.C-Unit.Denot} view in
    let place : i ≡ put_place seen (passes c.args.past_pending) p (elements us by xs) =
    omega (
      arith,
      cut.place,
      e,
      ap (prefix_len (passes c.args.past_pending)) (rest_behind us by _ xs mid at c.first-first.ensures.once cut),
      ap (λ k. prefix_len (passes c.args.past_pending) (drop k (elements us by xs))) e,
    ) in
    let count = ap (λ (l : TreeLeaf g.row.C.Denot). length (us l.content)) c.in_ok-leaf.ensures in
    c.in_ok-put_past.ensures.refs r
    ∙ ap (option_map (with_place (shifted_place i (length (us c.in_ok-leaf.leaf.content))))) (c.in_ok-at.ensures.refs r)
    ∙ ap (λ (n : ℕ). option_map (with_place (shifted_place i n)) (reference_at c.args.blocks.now.refs r)) count
    ∙ ap (λ (n : ℕ). option_map (with_place (shifted_place n (length (us c.args.content)))) (reference_at c.args.blocks.now.refs r)) place
