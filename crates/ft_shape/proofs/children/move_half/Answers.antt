use Rattle.std.proofs.Common.{◌≡◌, ◌≢◌, ◌+◌, ◌++◌, Some, None, slice_get, insert, remove, take, drop, ap, sym, ◌∙◌, arith}
use Rattle.ft_arena.specs.Forest.{entry, kids_of, parent_of}
use Rattle.ft_shape.proofs.Lists.{times_at}
use Rattle.ft_shape.proofs.Levels.{points_some, live_from_parent}
use Rattle.ft_shape.proofs.SplitLemmas.{half_front, half_back, live_from_values}
use Rattle.ft_shape.proofs.children.move_half.Goals as goal

pub put_child-requires-clause-child : goal.put_child-requires-clause-child
put_child-requires-clause-child g c =
    let s = c.loop-k.arena in
    let k = c.take_child-child.result in
    let m = times_at (kids_of s c.args.block) 4 k c.take_child-child.ensures.child in
    let p : parent_of s k ≡ Some c.args.block = points_some (parent_of s k) c.args.block (omega (arith, m, c.loop-k.invariant.forest.child_once c.args.block k)) in
    let t = c.take_child-child.ensures.takes in
    live_from_values (entry s k) (entry c.take_child-child.new.self k) (t.leaf_values k) (t.block_values k) (live_from_parent (entry s k) c.args.block p)

pub put_child-requires-clause-differ : goal.put_child-requires-clause-differ
put_child-requires-clause-differ g c e =
    let s = c.loop-k.arena in
    let k = c.take_child-child.result in
    let m = times_at (kids_of s c.args.block) 4 k c.take_child-child.ensures.child in
    let p : parent_of s k ≡ Some c.args.block = points_some (parent_of s k) c.args.block (omega (arith, m, c.loop-k.invariant.forest.child_once c.args.block k)) in
    let q : parent_of s c.args.rear ≡ None = c.loop-k.invariant.other_parents c.args.rear c.requires.alone in
    cc (p, q, ap (parent_of s) e)

pub loop-k-preserved : goal.loop-k-preserved
loop-k-preserved g c =
    let s = c.loop-k.arena in
    let i = c.loop-k.invariant in
    let k = c.take_child-child.result in
    let t = c.take_child-child.ensures.takes in
    let p = c.put_child.ensures.puts in
    let K = kids_of c.args.arena.now c.args.block in
    let found : slice_get (take 4 K ++ drop (4 + c.loop-k.k) K) 4 ≡ Some k = ap (λ zs. slice_get zs 4) (sym i.front) ∙ c.take_child-child.ensures.child in
    let rear : c.args.rear ≢ c.args.block = (λ e. c.requires.differ (sym e)) in
    record {
      leaves = c.put_child.ensures.leaves ∙ c.take_child-child.ensures.leaves ∙ i.leaves;
      forest = c.put_child.ensures.sound;
      leaf_values = λ x. p.leaf_values x ∙ t.leaf_values x ∙ i.leaf_values x;
      block_values = λ x. p.block_values x ∙ t.block_values x ∙ i.block_values x;
      front = p.other_kids c.args.block c.requires.differ ∙ t.kids ∙ ap (λ zs. remove zs 4) i.front ∙ half_front K c.loop-k.k k c.requires.full c.loop-k-test.true found;
      back = p.kids ∙ ap (λ zs. insert zs c.loop-k.k k) (t.other_kids c.args.rear rear ∙ i.back) ∙ half_back K c.loop-k.k k c.requires.full c.loop-k-test.true found;
      other_kids = λ x d n. p.other_kids x n ∙ t.other_kids x d ∙ i.other_kids x d n;
      spare = c.put_child.ensures.spare ∙ c.take_child-child.ensures.spare ∙ i.spare;
      other_parents = λ x h.
          let m = times_at (kids_of s c.args.block) 4 k c.take_child-child.ensures.child in
          let up : parent_of s k ≡ Some c.args.block = points_some (parent_of s k) c.args.block (omega (arith, m, i.forest.child_once c.args.block k)) in
          let far : x ≢ k = (λ e. cc (up, i.other_parents x h, ap (parent_of s) e)) in
          p.other_parents x far ∙ t.other_parents x far ∙ i.other_parents x h;
    }
