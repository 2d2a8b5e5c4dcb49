use Rattle.std.proofs.Common.{◌≡◌, ℕ, ◌+◌, List, [], drop, subst, sym, ◌∙◌, arith}
use Rattle.std.proofs.lemmas.List.{drop_all}
use Rattle.ft_tree_blocks.specs.Slides.{AreSettledBut}
use Rattle.ft_tree_blocks.proofs.NotedLeaves.{drop_next}
use Rattle.ft_tree_blocks.proofs.SlidReferences.{slid_all_stay}
use Rattle.ft_tree_blocks.proofs.slides.slide_leaves.Goals as goal

pub loop-id-preserved : goal.loop-id-preserved
loop-id-preserved g c =
    let nodes = c.args.nodes.now in
    let i = c.loop-id.id-index in
    let next = drop_next nodes i c.id-item.result c.loop-id-test.true c.id-item.is in
    record {
      anchored = c.slide_leaf.ensures.anchored;
      settled = c.slide_leaf.ensures.settled (drop (i + 1) nodes)
          (subst (λ (zs : List ℕ). AreSettledBut c.args.blocks.now.leaves zs c.loop-id.anchors) next c.loop-id.invariant.settled);
      once = λ r. c.slide_leaf.ensures.once r ∙ c.loop-id.invariant.once r;
    }

pub returns-clause-references : goal.returns-clause-references
returns-clause-references g c =
    let us = g.C.Content.units in
    let by = g.C.Content.by in
    let xs = c.args.blocks.now.leaves in
    let none : drop c.loop-id.id-index c.args.nodes.now ≡ [] = drop_all c.loop-id.id-index c.args.nodes.now (omega (arith, c.loop-id-test.false)) in
    λ r. sym (slid_all_stay us by xs c.first-first.ensures.once c.loop-id.anchors c.loop-id.invariant.anchored
    (subst (λ (zs : List ℕ). AreSettledBut xs zs c.loop-id.anchors) none c.loop-id.invariant.settled) r)
    ∙ c.loop-id.invariant.once r

pub returns-clause-settled : goal.returns-clause-settled
returns-clause-settled g c =
    let none : drop c.loop-id.id-index c.args.nodes.now ≡ [] = drop_all c.loop-id.id-index c.args.nodes.now (omega (arith, c.loop-id-test.false)) in
    subst (λ (zs : List ℕ). AreSettledBut c.args.blocks.now.leaves zs c.loop-id.anchors) none c.loop-id.invariant.settled
