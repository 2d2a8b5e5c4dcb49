use Rattle.std.proofs.Common.{◌≡◌, ◌≤◌, ℕ, List, ap, sym, ◌∙◌, arith}
use Rattle.ft_arena.specs.Forest.{entry, kids_of, kids_of_entry, kids_of_node}
use Rattle.ft_shape.specs.Tree.{seek, length_of, length_of_entry, total, height_of, height_of_entry, height_of_node}
use Rattle.ft_block.specs.Tree.{by_view}
use Rattle.ft_shape.proofs.Levels.{descends, total_leaves, block_from_height}
use Rattle.ft_shape.proofs.KindLemmas.{block_live}
use Rattle.ft_block.proofs.KeptLemmas.{node_from}
use Rattle.ft_arena.specs.Ids.{times}
use Rattle.ft_block.proofs.PositionLemmas.{forest_kid_live}
use Rattle.ft_block.proofs.find.find_from.Goals as goal

pub length_at-all-requires-clause-node : goal.length_at-all-requires-clause-node
length_at-all-requires-clause-node g c = node_from c.args.floor c.args.arena.now c.args.root c.read-node.result.now _ c.requires.floors c.read-node.ensures.node

pub levels-init : goal.levels-init
levels-init g c =
    let t = c.requires.tree in
    let measure = by_view g.L.Leaf.size g.L.Leaf.element c.args.view in
    let all = total_leaves measure c.args.arena.now c.args.root t c.requires.sums in
    record {
      block = t.shape.root_is_block;
      node = c.read-node.ensures.node;
      all = c.length_at-all.ensures ∙ sym (ap (length_of_entry measure) c.read-node.ensures.node);
      high = omega arith;
      low = c.requires.low;
      same = ap (λ (zs : List ℕ). seek (length_of measure c.args.arena.now) zs c.args.p) t.leaves;
      past = λ h. (sym all, omega (arith, h, all));
      cost = omega (arith, c.read-node.ensures.tick);
    }

pub child_at-requires-clause-block : goal.child_at-requires-clause-block
child_at-requires-clause-block g c = ap kids_of_entry c.levels.invariant.node ∙ ap kids_of_node c.in-Block.is

pub child_at-requires-clause-all : goal.child_at-requires-clause-all
child_at-requires-clause-all g c =
    let measure = by_view g.L.Leaf.size g.L.Leaf.element c.args.view in
    let s = c.args.arena.now in
    let kids : kids_of s c.levels.at ≡ c.in-Block.kids = ap kids_of_entry c.levels.invariant.node ∙ ap kids_of_node c.in-Block.is in
    c.levels.invariant.all ∙ c.requires.sums c.levels.at c.levels.invariant.block (λ e. cc e) ∙ ap (total (length_of measure s)) kids

pub returns-in_err-found-clause-cost : goal.returns-in_err-found-clause-cost
returns-in_err-found-clause-cost g c =
    let more : 1 ≤ height_of c.args.arena.now c.levels.at = c.requires.tree.shape.high c.levels.at c.levels.invariant.block in
    omega (arith, c.child_at.ensures.cost, c.read-node.ensures.tick, c.levels.invariant.cost, c.levels.invariant.high, more)

pub returns-then-value-eq1-clause-cost : goal.returns-then-value-eq1-clause-cost
returns-then-value-eq1-clause-cost g c =
    let more : 1 ≤ height_of c.args.arena.now c.levels.at = c.requires.tree.shape.high c.levels.at c.levels.invariant.block in
    omega (arith, c.child_at.ensures.cost, c.read-node.ensures.tick, c.levels.invariant.cost, c.levels.invariant.high, more)

pub read-node-requires-in-levels : goal.read-node-requires-in-levels
read-node-requires-in-levels g c =
    let kids : kids_of c.args.arena.now c.levels.at ≡ c.in-Block.kids = ap kids_of_entry c.levels.invariant.node ∙ ap kids_of_node c.in-Block.is in
    let measure = by_view g.L.Leaf.size g.L.Leaf.element c.args.view in
    let found = ap (λ (zs : List ℕ). seek (length_of measure c.args.arena.now) zs c.levels.rest) kids ∙ c.in_ok-found.ensures.found in
    let d = descends measure c.args.arena.now c.args.root c.requires.tree c.requires.sums c.levels.at
    c.in_ok-found.found.child c.levels.rest c.in_ok-found.found.inside c.levels.invariant.low found in
    let h : height_of c.args.arena.now c.levels.at ≡ c.in-Block.value.height = ap height_of_entry c.levels.invariant.node ∙ ap height_of_node c.in-Block.is in
    let more : 1 ≤ height_of c.args.arena.now c.levels.at = c.requires.tree.shape.high c.levels.at c.levels.invariant.block in
    block_live (entry c.args.arena.now c.in_ok-found.found.child)
    (block_from_height (entry c.args.arena.now c.in_ok-found.found.child) (omega (arith, d.high, h, c.if-value-eq1.false, more)))

pub levels-smaller : goal.levels-smaller
levels-smaller g c =
    let kids : kids_of c.args.arena.now c.levels.at ≡ c.in-Block.kids = ap kids_of_entry c.levels.invariant.node ∙ ap kids_of_node c.in-Block.is in
    let measure = by_view g.L.Leaf.size g.L.Leaf.element c.args.view in
    let found = ap (λ (zs : List ℕ). seek (length_of measure c.args.arena.now) zs c.levels.rest) kids ∙ c.in_ok-found.ensures.found in
    let d = descends measure c.args.arena.now c.args.root c.requires.tree c.requires.sums c.levels.at
    c.in_ok-found.found.child c.levels.rest c.in_ok-found.found.inside c.levels.invariant.low found in
    omega (arith, d.high)

pub levels-preserved : goal.levels-preserved
levels-preserved g c =
    let kids : kids_of c.args.arena.now c.levels.at ≡ c.in-Block.kids = ap kids_of_entry c.levels.invariant.node ∙ ap kids_of_node c.in-Block.is in
    let measure = by_view g.L.Leaf.size g.L.Leaf.element c.args.view in
    let found = ap (λ (zs : List ℕ). seek (length_of measure c.args.arena.now) zs c.levels.rest) kids ∙ c.in_ok-found.ensures.found in
    let d = descends measure c.args.arena.now c.args.root c.requires.tree c.requires.sums c.levels.at
    c.in_ok-found.found.child c.levels.rest c.in_ok-found.found.inside c.levels.invariant.low found in
    let h : height_of c.args.arena.now c.levels.at ≡ c.in-Block.value.height = ap height_of_entry c.levels.invariant.node ∙ ap height_of_node c.in-Block.is in
    let more : 1 ≤ height_of c.args.arena.now c.levels.at = c.requires.tree.shape.high c.levels.at c.levels.invariant.block in
    record {
      block = block_from_height (entry c.args.arena.now c.in_ok-found.found.child) (omega (arith, d.high, h, c.if-value-eq1.false, more));
      node = c.read-node-in-levels.ensures.node;
      all = c.in_ok-found.ensures.length;
      high = omega (arith, d.high, c.levels.invariant.high);
      low = d.low;
      same = c.levels.invariant.same ∙ d.same;
      past = λ q. absurd (omega (arith, q, d.within));
      cost = omega (arith, d.high, c.child_at.ensures.cost, c.read-node-in-levels.ensures.tick, c.levels.invariant.cost, c.levels.invariant.high);
    }

pub read-node-requires : goal.read-node-requires
read-node-requires g c = block_live (entry c.args.arena.now c.args.root) c.requires.tree.shape.root_is_block

pub length_at-all-requires-clause-kept : goal.length_at-all-requires-clause-kept
length_at-all-requires-clause-kept g c = c.requires.kept

pub child_at-requires-clause-kept : goal.child_at-requires-clause-kept
child_at-requires-clause-kept g c = c.requires.kept

pub child_at-requires-clause-floors : goal.child_at-requires-clause-floors
child_at-requires-clause-floors g c = c.requires.floors

pub child_at-requires-clause-live : goal.child_at-requires-clause-live
child_at-requires-clause-live g c = λ id m.
    let kids : kids_of c.args.arena.now c.levels.at ≡ c.in-Block.kids = ap kids_of_entry c.levels.invariant.node ∙ ap kids_of_node c.in-Block.is in
    forest_kid_live c.args.arena.now c.levels.at id c.requires.tree.shape.forest (omega (arith, m, ap (λ zs. times zs id) kids))

pub child_at-requires-clause-low : goal.child_at-requires-clause-low
child_at-requires-clause-low g c = c.levels.invariant.low
