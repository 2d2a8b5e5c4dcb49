use Rattle.std.proofs.Common.{ℕ, List, [], IsTrue, true, ap, subst, sym, ◌∙◌}
use Rattle.ft_block.specs.Leaves.{LeafList}
use Rattle.ft_tree_leaves.specs.declared.leaves.TreeLeaf.{TreeLeaf}
use Rattle.ft_tree_leaves.specs.declared.references.Reference.{Reference}
use Rattle.ft_tree_blocks.specs.Anchors.{is_acked_at, reference_on, references_on}
use Rattle.ft_tree_blocks.specs.State.{TrackedLeaves}
use Rattle.ft_tree_blocks.specs.Unsettled.{IsSoundOn}
use Rattle.ft_tree_blocks.proofs.RefSteps.{none_sound, numbered_none}
use Rattle.ft_tree_blocks.proofs.TrackedSteps.{tracks-is, tracks-none}
use Rattle.ft_tree_blocks.proofs.leaf_blocks.LeafBlocks.new.Goals as goal

pub invariant_of-result : goal.invariant_of-result
invariant_of-result g c = λ h. record {
  blocks = subst (λ (l : LeafList (TreeLeaf g.row.C.Denot)). IsTrue l.usable) (sym c.new.ensures) h;
  tracks = tracks-is [] c.new.result.leaves [] c.new-2.result.items (ap (λ (l : LeafList (TreeLeaf g.row.C.Denot)). l.leaves) c.new.ensures) c.new-2.ensures.items tracks-none;
  refs = subst (λ (xs : List (ℕ × TreeLeaf g.row.C.Denot)). IsSoundOn g.C.Content.units xs c.new-3.result.anchors c.new-3.result.unsettled.items)
      (sym (ap (λ (l : LeafList (TreeLeaf g.row.C.Denot)). l.leaves) c.new.ensures))
      (none_sound g.C.Content.units g.C.Content.by c.new-3.result.anchors c.new-3.result.unsettled.items c.new-3.ensures.refs);
}

pub returns : goal.returns
returns g c =
    let us = g.C.Content.units in
    let by = g.C.Content.by in
    let a = c.new-3.result.anchors in
    let of_list : LeafList (TreeLeaf g.row.C.Denot) → TrackedLeaves g.row.C.Denot =
    λ l. record { leaves = l.leaves; depth = l.depth; floor = l.floor; refs = references_on us by l.leaves a; usable = true } in
    let of_refs : List (ℕ × Reference) → TrackedLeaves g.row.C.Denot = λ rs. record { leaves = []; depth = 0; floor = 0; refs = rs; usable = true } in
    ap of_list c.new.ensures ∙ ap of_refs (numbered_none (λ r p. reference_on us by [] (is_acked_at a r) p) 0 a.refs.refs c.new-3.ensures.refs)
