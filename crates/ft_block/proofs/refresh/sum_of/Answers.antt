use Rattle.std.proofs.Common.{◌≡◌, ◌+◌, ◌%◌, ◌^◌, ℕ, [], drop, ap, sym, ◌∙◌, arith}
use Rattle.std.proofs.lemmas.Option.{slice_get_within}
use Rattle.ft_shape.specs.Tree.{total, length_of, length_of_entry}
use Rattle.ft_block.specs.Tree.{by_view, kept_length}
use Rattle.ft_shape.proofs.Lists.{times_at, drop_at, drop_none}
use Rattle.ft_block.proofs.KeptLemmas.{node_from, one_more}
use Rattle.std.proofs.lemmas.Result.{IfOk-from_err}
use Rattle.ft_block.proofs.refresh.sum_of.Goals as goal

pub loop-kid-init : goal.loop-kid-init
loop-kid-init g c = record {
  few = omega (arith, c.len-few.ensures.value, c.len-few.ensures.few);
  floor =
      c.new-sum.ensures.floor;
  low = (omega arith, omega arith);
  so_far = λ view k. omega (arith, c.new-sum.ensures.nothing view k);
}

pub read-requires : goal.read-requires
read-requires g c = c.requires.live c.in-Some.kid (times_at c.args.kids.now c.loop-kid.i c.in-Some.kid (sym c.get.ensures ∙ c.in-Some.is))

pub add_node-requires-clause-node : goal.add_node-requires-clause-node
add_node-requires-clause-node g c = node_from c.args.floor c.args.arena.now c.in-Some.kid c.read.result.now _ c.requires.floors c.read.ensures.node

pub overflow_add-i : goal.overflow_add-i
overflow_add-i g c = let w = slice_get_within c.args.kids.now c.loop-kid.i c.in-Some.kid (sym c.get.ensures ∙ c.in-Some.is) in omega (arith, w, c.loop-kid.invariant.few)

pub loop-kid-smaller : goal.loop-kid-smaller
loop-kid-smaller g c = let w = slice_get_within c.args.kids.now c.loop-kid.i c.in-Some.kid (sym c.get.ensures ∙ c.in-Some.is) in omega (arith, w)

pub loop-kid-preserved : goal.loop-kid-preserved
loop-kid-preserved g c =
    record {
      few = c.loop-kid.invariant.few;
      floor = c.add_node.ensures.floor;
      low = c.in_ok-add_node.ensures.low;
      so_far = λ view k.
          let f : ℕ → ℕ = length_of (by_view g.L.Leaf.size g.L.Leaf.element view) c.args.arena.now in
          let n = ap (length_of_entry (by_view g.L.Leaf.size g.L.Leaf.element view)) c.read.ensures.node in
          let t : total f (drop c.loop-kid.i c.args.kids.now) ≡ f c.in-Some.kid + total f (drop (c.loop-kid.i + 1) c.args.kids.now) =
          ap (total f) (drop_at c.args.kids.now c.loop-kid.i c.in-Some.kid (sym c.get.ensures ∙ c.in-Some.is)) in
          one_more (kept_length view c.loop-kid.sum) (kept_length view c.add_node.new.sum) (f c.in-Some.kid) (total f (drop (c.loop-kid.i + 1) c.args.kids.now))
          (total f c.args.kids.now) (c.in_ok-add_node.ensures.sum view k ∙ ap (λ (x : ℕ). (kept_length view c.loop-kid.sum + x) % 2 ^ 64) (sym n))
          (ap (λ (x : ℕ). kept_length view c.loop-kid.sum + x) (sym t) ∙ c.loop-kid.invariant.so_far view k) (c.requires.fits view k);
    }

pub returns-clause-sum : goal.returns-clause-sum
returns-clause-sum g c = λ view k.
    let e : drop c.loop-kid.i c.args.kids.now ≡ [] = drop_none c.args.kids.now c.loop-kid.i (sym c.get.ensures ∙ c.in_default.is) in
    omega (arith, ap (total (length_of (by_view g.L.Leaf.size g.L.Leaf.element view) c.args.arena.now)) e, c.loop-kid.invariant.so_far view k)

pub add_node-requires-clause-floor : goal.add_node-requires-clause-floor
add_node-requires-clause-floor g c = c.loop-kid.invariant.floor

pub returns-clause-floor : goal.returns-clause-floor
returns-clause-floor g c = c.loop-kid.invariant.floor

pub returns-in_err-add_node : goal.returns-in_err-add_node
returns-in_err-add_node g c =
    let r = c.from_residual in
    record {
      floor = IfOk-from_err r.result _ r.ensures.0;
      sum = IfOk-from_err r.result _ r.ensures.0;
    }
