use Rattle.std.proofs.Common.{◌≡◌, ℕ, drop, option_map}
use Rattle.ft_tree_leaves.specs.LeafLists.{elements}
use Rattle.ft_tree_leaves.specs.References.{reference_at, slid_reference}
use Rattle.ft_tree_blocks.specs.Anchors.{AreAnchored, references_on}
use Rattle.ft_tree_blocks.specs.Slides.{AreSettledBut}
use Rattle.ft_tree_blocks.proofs.slides.slide_leaves.Given as goal

-- those on the leaves so far have gone where they go
abbrev pub invariant-loop-id : goal.invariant-loop-id
invariant-loop-id g l =
    let us = g.C.Content.units in
    let by = g.C.Content.by in
    let xs = l.blocks.leaves in
    record {
      anchored : AreAnchored us xs l.anchors;
      settled : AreSettledBut xs (drop l.id-index l.nodes) l.anchors;
      once : (r : ℕ) → option_map (slid_reference (elements us by xs)) (reference_at (references_on us by xs l.anchors) r)
          ≡ option_map (slid_reference (elements us by xs)) (reference_at (references_on us by xs l.initial.anchors) r);
    }
