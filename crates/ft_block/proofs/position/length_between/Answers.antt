use Rattle.std.proofs.Common.{◌≡◌, ◌+◌, ℕ, Some, slice_get, ap, sym, ◌∙◌, arith}
use Rattle.ft_arena.specs.Forest.{kids_of, kids_of_entry, kids_of_node}
use Rattle.ft_shape.specs.Tree.{length_of, length_of_entry}
use Rattle.ft_block.specs.Tree.{by_view}
use Rattle.ft_shape.proofs.Lists.{times_at}
use Rattle.ft_block.proofs.KeptLemmas.{node_from}
use Rattle.ft_block.proofs.NearerEnd.{total-take_le, total-take_more}
use Rattle.ft_block.proofs.PositionLemmas.{forest_kid_live}
use Rattle.ft_block.proofs.position.length_between.Goals as goal

pub read-requires-in-loop-i : goal.read-requires-in-loop-i
read-requires-in-loop-i g c =
    let kids : kids_of c.args.arena.now c.args.block ≡ c.in-Block.kids = ap kids_of_entry c.read.ensures.node ∙ ap kids_of_node c.in-Block.is in
    let there : slice_get (kids_of c.args.arena.now c.args.block) c.loop-i.i ≡ Some c.in-Some.kid =
    ap (λ zs. slice_get zs c.loop-i.i) kids ∙ sym c.get.ensures ∙ c.in-Some.is in
    forest_kid_live c.args.arena.now c.args.block c.in-Some.kid c.requires.forest (times_at (kids_of c.args.arena.now c.args.block) c.loop-i.i c.in-Some.kid there)

pub length_at-sum-requires-clause-node : goal.length_at-sum-requires-clause-node
length_at-sum-requires-clause-node g c =
    node_from c.args.floor c.args.arena.now c.in-Some.kid c.read-in-loop-i.result.now _ c.requires.floors c.read-in-loop-i.ensures.node

pub overflow_add-sum : goal.overflow_add-sum
overflow_add-sum g c =
    let measure = by_view g.L.Leaf.size g.L.Leaf.element c.args.view in
    let f : ℕ → ℕ = length_of measure c.args.arena.now in
    let ks = kids_of c.args.arena.now c.args.block in
    let kids : ks ≡ c.in-Block.kids = ap kids_of_entry c.read.ensures.node ∙ ap kids_of_node c.in-Block.is in
    let there : slice_get ks c.loop-i.i ≡ Some c.in-Some.kid = ap (λ zs. slice_get zs c.loop-i.i) kids ∙ sym c.get.ensures ∙ c.in-Some.is in
    let n : f c.in-Some.kid ≡ c.length_at-sum.result = ap (length_of_entry measure) c.read-in-loop-i.ensures.node ∙ sym c.length_at-sum.ensures in
    omega (arith, n, c.loop-i.invariant, total-take_more f ks c.loop-i.i c.in-Some.kid there, total-take_le f ks (c.loop-i.i + 1), c.requires.fits)

pub loop-i-preserved : goal.loop-i-preserved
loop-i-preserved g c =
    let measure = by_view g.L.Leaf.size g.L.Leaf.element c.args.view in
    let f : ℕ → ℕ = length_of measure c.args.arena.now in
    let ks = kids_of c.args.arena.now c.args.block in
    let kids : ks ≡ c.in-Block.kids = ap kids_of_entry c.read.ensures.node ∙ ap kids_of_node c.in-Block.is in
    let there : slice_get ks c.loop-i.i ≡ Some c.in-Some.kid = ap (λ zs. slice_get zs c.loop-i.i) kids ∙ sym c.get.ensures ∙ c.in-Some.is in
    let n : f c.in-Some.kid ≡ c.length_at-sum.result = ap (length_of_entry measure) c.read-in-loop-i.ensures.node ∙ sym c.length_at-sum.ensures in
    omega (arith, n, c.loop-i.invariant, total-take_more f ks c.loop-i.i c.in-Some.kid there)

pub length_at-sum-requires-clause-kept : goal.length_at-sum-requires-clause-kept
length_at-sum-requires-clause-kept g c = c.requires.kept
