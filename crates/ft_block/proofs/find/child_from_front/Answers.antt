use Rattle.std.proofs.Common.{◌≡◌, ◌<◌, ◌-◌, ◌+◌, ℕ, List, ◌∷◌, drop, ap, sym, ◌∙◌, arith, refl}
use Rattle.std.proofs.lemmas.Option.{slice_get_within}
use Rattle.ft_shape.specs.Tree.{seek, total, length_of, length_of_entry}
use Rattle.ft_block.specs.Tree.{by_view}
use Rattle.ft_shape.proofs.Lists.{times_at, drop_at, drop_none, seek_here, seek_later}
use Rattle.ft_block.proofs.KeptLemmas.{node_from}
use Rattle.ft_block.proofs.find.child_from_front.Goals as goal

pub read-requires : goal.read-requires
read-requires g c = c.requires.live c.in-Some.kid (times_at c.args.kids.now c.loop-kid.i c.in-Some.kid (sym c.get.ensures ∙ c.in-Some.is))

pub length_at-length-requires-clause-node : goal.length_at-length-requires-clause-node
length_at-length-requires-clause-node g c = node_from c.args.floor c.args.arena.now c.in-Some.kid c.read.result.now _ c.requires.floors c.read.ensures.node

pub returns-then-rest-length-clause-found : goal.returns-then-rest-length-clause-found
returns-then-rest-length-clause-found g c =
    let measure = by_view g.L.Leaf.size g.L.Leaf.element c.args.view in
    let f = length_of measure c.args.arena.now in
    let here = sym c.get.ensures ∙ c.in-Some.is in
    let n : f c.in-Some.kid ≡ c.length_at-length.result = ap (length_of_entry measure) c.read.ensures.node ∙ sym c.length_at-length.ensures in
    c.loop-kid.invariant.same
    ∙ ap (λ (zs : List ℕ). seek f zs c.loop-kid.rest) (drop_at c.args.kids.now c.loop-kid.i c.in-Some.kid here)
    ∙ seek_here f c.in-Some.kid _ c.loop-kid.rest (omega (arith, n, c.if-rest-length.true))

pub loop-kid-preserved : goal.loop-kid-preserved
loop-kid-preserved g c =
    let measure = by_view g.L.Leaf.size g.L.Leaf.element c.args.view in
    let f = length_of measure c.args.arena.now in
    let here = sym c.get.ensures ∙ c.in-Some.is in
    let n : f c.in-Some.kid ≡ c.length_at-length.result = ap (length_of_entry measure) c.read.ensures.node ∙ sym c.length_at-length.ensures in
    let after : List ℕ = drop (c.loop-kid.i + 1) c.args.kids.now in
    let e : drop c.loop-kid.i c.args.kids.now ≡ c.in-Some.kid ∷ after = drop_at c.args.kids.now c.loop-kid.i c.in-Some.kid here in
    let t : total f (drop c.loop-kid.i c.args.kids.now) ≡ f c.in-Some.kid + total f after = ap (total f) e in
    let more : f c.in-Some.kid < c.loop-kid.rest = omega (arith, n, c.if-rest-length.false) in
    record {
      low = omega (arith, c.if-rest-length.false);
      few = c.loop-kid.invariant.few;
      inside = omega (arith, slice_get_within c.args.kids.now c.loop-kid.i c.in-Some.kid here);
      passed = omega (arith, t, n, more, c.loop-kid.invariant.passed);
      same = c.loop-kid.invariant.same
          ∙ ap (λ (zs : List ℕ). seek f zs c.loop-kid.rest) e
          ∙ seek_later f c.in-Some.kid _ c.loop-kid.rest more
          ∙ ap (λ (m : ℕ). seek f after (c.loop-kid.rest - m)) n;
      cost = omega (arith, c.read.ensures.tick, c.loop-kid.invariant.cost);
    }

pub overflow_sub-result : goal.overflow_sub-result
overflow_sub-result g c =
    let f = length_of (by_view g.L.Leaf.size g.L.Leaf.element c.args.view) c.args.arena.now in
    let none = drop_none c.args.kids.now c.loop-kid.i (sym c.get.ensures ∙ c.in_default.is) in
    omega (arith, ap (total f) none, c.loop-kid.invariant.passed)

pub returns-clause-past : goal.returns-clause-past
returns-clause-past g c =
    let f = length_of (by_view g.L.Leaf.size g.L.Leaf.element c.args.view) c.args.arena.now in
    let none = drop_none c.args.kids.now c.loop-kid.i (sym c.get.ensures ∙ c.in_default.is) in
    omega (arith, ap (total f) none, c.loop-kid.invariant.passed)

pub returns-clause-cost : goal.returns-clause-cost
returns-clause-cost g c = omega (arith, c.loop-kid.invariant.cost, c.loop-kid.invariant.inside, c.loop-kid.invariant.few)

pub length_at-length-requires-clause-kept : goal.length_at-length-requires-clause-kept
length_at-length-requires-clause-kept g c = c.requires.kept

pub loop-kid-init : goal.loop-kid-init
loop-kid-init g c =
    record {
      low = c.requires.low;
      few = omega (arith, c.len-few.ensures.value, c.len-few.ensures.few);
      inside = omega arith;
      passed = refl;
      same = refl;
      cost = omega arith;
    }

pub loop-kid-smaller : goal.loop-kid-smaller
loop-kid-smaller g c =
    let w = slice_get_within c.args.kids.now c.loop-kid.i c.in-Some.kid (sym c.get.ensures ∙ c.in-Some.is) in
    omega (arith, w)

pub returns-then-rest-length-clause-length : goal.returns-then-rest-length-clause-length
returns-then-rest-length-clause-length g c = sym (ap (length_of_entry (by_view g.L.Leaf.size g.L.Leaf.element c.args.view)) c.read.ensures.node ∙ sym
    c.length_at-length.ensures)

pub returns-then-rest-length-clause-cost : goal.returns-then-rest-length-clause-cost
returns-then-rest-length-clause-cost g c =
    let w = slice_get_within c.args.kids.now c.loop-kid.i c.in-Some.kid (sym c.get.ensures ∙ c.in-Some.is) in
    omega (arith, w, c.read.ensures.tick, c.loop-kid.invariant.cost, c.loop-kid.invariant.few)

pub returns-clause-beyond : goal.returns-clause-beyond
returns-clause-beyond g c = omega (arith, c.loop-kid.invariant.low, c.requires.low)

pub overflow_sub-rest : goal.overflow_sub-rest
overflow_sub-rest g c = omega (arith, c.if-rest-length.false)

pub overflow_add-i : goal.overflow_add-i
overflow_add-i g c =
    let w = slice_get_within c.args.kids.now c.loop-kid.i c.in-Some.kid (sym c.get.ensures ∙ c.in-Some.is) in
    omega (arith, w, c.loop-kid.invariant.few)
