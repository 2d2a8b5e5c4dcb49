use Rattle.std.proofs.Common.{◌≡◌, ◌<◌, ◌≤◌, ◌-◌, ◌+◌, ℕ, Some, slice_get, take, ap, sym, ◌∙◌, arith}
use Rattle.std.proofs.lemmas.List.{take_all}
use Rattle.ft_shape.specs.Tree.{total, length_of, length_of_entry}
use Rattle.ft_block.specs.Tree.{by_view}
use Rattle.ft_shape.proofs.Lists.{times_at}
use Rattle.ft_block.proofs.KeptLemmas.{node_from}
use Rattle.ft_block.proofs.NearerEnd.{none_within, seek-at, total-take_more}
use Rattle.ft_block.proofs.find.child_from_back.Goals as goal

pub back-init : goal.back-init
back-init g c =
    let f = length_of (by_view g.L.Leaf.size g.L.Leaf.element c.args.view) c.args.arena.now in
    let whole = take_all c.len-i.result c.args.kids.now (omega (arith, c.len-i.ensures.value)) in
    record {
      few = omega (arith, c.len-i.ensures.value, c.len-i.ensures.few);
      inside = omega (arith, c.len-i.ensures.value);
      passed = omega (arith, ap (total f) whole, c.requires.all, c.requires.high);
      cost = omega (arith, c.len-i.ensures.value);
    }

pub read-requires : goal.read-requires
read-requires g c = c.requires.live c.in-Some.kid (times_at c.args.kids.now (c.back.i - 1) c.in-Some.kid (sym c.get.ensures ∙ c.in-Some.is))

pub length_at-length-requires-clause-node : goal.length_at-length-requires-clause-node
length_at-length-requires-clause-node g c = node_from c.args.floor c.args.arena.now c.in-Some.kid c.read.result.now _ c.requires.floors c.read.ensures.node

pub returns-then-behind-length-clause-found : goal.returns-then-behind-length-clause-found
returns-then-behind-length-clause-found g c =
    let measure = by_view g.L.Leaf.size g.L.Leaf.element c.args.view in
    let f = length_of measure c.args.arena.now in
    let ks = c.args.kids.now in
    let i : ℕ = c.back.i - 1 in
    let kid = c.in-Some.kid in
    let here : slice_get ks i ≡ Some kid = sym c.get.ensures ∙ c.in-Some.is in
    let n : f kid ≡ c.length_at-length.result = ap (length_of_entry measure) c.read.ensures.node ∙ sym c.length_at-length.ensures in
    let next : i + 1 ≡ c.back.i = omega (arith, c.back-test.true) in
    let more : total f (take c.back.i ks) ≡ total f (take i ks) + f kid = ap (λ (k : ℕ). total f (take k ks)) (sym next) ∙ total-take_more f ks i kid here in
    let low : total f (take i ks) < c.args.p = omega (arith, more, n, c.back.invariant.passed, c.if-behind-length.true) in
    let high : c.args.p ≤ total f (take i ks) + f kid = omega (arith, more, c.back.invariant.passed) in
    let in_it : c.args.p - total f (take i ks) ≡ c.length_at-length.result - c.back.behind = omega (arith, more, n, c.back.invariant.passed, c.if-behind-length.true) in
    seek-at f ks i kid c.args.p here low high ∙ ap (λ (q : ℕ). Some (kid, q)) in_it

pub back-preserved : goal.back-preserved
back-preserved g c =
    let measure = by_view g.L.Leaf.size g.L.Leaf.element c.args.view in
    let f = length_of measure c.args.arena.now in
    let ks = c.args.kids.now in
    let i : ℕ = c.back.i - 1 in
    let kid = c.in-Some.kid in
    let here : slice_get ks i ≡ Some kid = sym c.get.ensures ∙ c.in-Some.is in
    let n : f kid ≡ c.length_at-length.result = ap (length_of_entry measure) c.read.ensures.node ∙ sym c.length_at-length.ensures in
    let next : i + 1 ≡ c.back.i = omega (arith, c.back-test.true) in
    let more : total f (take c.back.i ks) ≡ total f (take i ks) + f kid = ap (λ (k : ℕ). total f (take k ks)) (sym next) ∙ total-take_more f ks i kid here in
    record {
      few = c.back.invariant.few;
      inside = omega (arith, c.back.invariant.inside);
      passed = omega (arith, more, n, c.back.invariant.passed, c.if-behind-length.false);
      cost = omega (arith, c.read.ensures.tick, c.back.invariant.cost, c.back-test.true);
    }

pub length_at-length-requires-clause-kept : goal.length_at-length-requires-clause-kept
length_at-length-requires-clause-kept g c = c.requires.kept

pub back-smaller : goal.back-smaller
back-smaller g c = omega (arith, c.back-test.true)

pub returns-then-behind-length-clause-length : goal.returns-then-behind-length-clause-length
returns-then-behind-length-clause-length g c = sym (ap (length_of_entry (by_view g.L.Leaf.size g.L.Leaf.element c.args.view)) c.read.ensures.node ∙
    sym c.length_at-length.ensures)

pub returns-then-behind-length-clause-cost : goal.returns-then-behind-length-clause-cost
returns-then-behind-length-clause-cost g c = omega (arith, c.read.ensures.tick, c.back.invariant.cost, c.back.invariant.few, c.back-test.true)

pub overflow_sub-i : goal.overflow_sub-i
overflow_sub-i g c = omega (arith, c.back-test.true)

pub unreachable-requires : goal.unreachable-requires
unreachable-requires g c =
    none_within c.args.kids.now (c.back.i - 1) (sym c.get.ensures ∙ c.in_default.is) (omega (arith, c.back-test.true, c.back.invariant.inside))

pub unreachable-requires-2 : goal.unreachable-requires-2
unreachable-requires-2 g c =
    let f = length_of (by_view g.L.Leaf.size g.L.Leaf.element c.args.view) c.args.arena.now in
    let none : c.back.i ≡ 0 = omega (arith, c.back-test.false) in
    omega (arith, ap (λ (k : ℕ). total f (take k c.args.kids.now)) none, c.back.invariant.passed, c.requires.low)
