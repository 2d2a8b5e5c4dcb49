use Rattle.std.proofs.Common.{◌≡◌, ◌≢◌, ◌+◌, [], ◌∷◌, List, ℕ, Some, drop, slice_get, ap, sym, refl, ◌∙◌, arith}
use Rattle.std.proofs.lemmas.Bool.{eqb-true, eqb-false}
use Rattle.ft_arena.specs.Ids.{times}
use Rattle.ft_arena.specs.Forest.{kids_of, kids_of_entry, kids_of_node, entry}
use Rattle.ft_arena.proofs.IdLemmas.{same_other}
use Rattle.ft_shape.proofs.Lists.{drop_at, drop_none}
use Rattle.ft_block.proofs.OrderLemmas.{comes_before, before_first, before_second, before_rest}
use Rattle.std.proofs.lemmas.Option.{slice_get_within}
use Rattle.ft_shape.proofs.KindLemmas.{block_live}
use Rattle.ft_block.proofs.order.is_child_before.Goals as goal

pub loop-kid-init : goal.loop-kid-init
loop-kid-init g c =
    record { few = c.requires.forest.few c.args.block; first = c.requires.first; second = c.requires.second; same = refl }

pub returns-then-eq : goal.returns-then-eq
returns-then-eq g c =
    let rest : List ℕ = drop (c.loop-kid.i + 1) (kids_of c.args.arena.now c.args.block) in
    let kids : kids_of c.args.arena.now c.args.block ≡ c.in-Block.kids = ap kids_of_entry c.read.ensures.node ∙ ap kids_of_node c.in-Block.is in
    let there : slice_get (kids_of c.args.arena.now c.args.block) c.loop-kid.i ≡ Some c.in-Some.kid =
    ap (λ zs. slice_get zs c.loop-kid.i) kids ∙ sym c.get.ensures ∙ c.in-Some.is in
    let e = drop_at (kids_of c.args.arena.now c.args.block) c.loop-kid.i c.in-Some.kid there in
    let q : c.in-Some.kid ≡ c.args.second = eqb-true c.in-Some.kid c.args.second (sym c.eq.ensures ∙ c.if-eq.true) in
    sym (sym c.loop-kid.invariant.same ∙ ap (λ (zs : List ℕ). comes_before zs c.args.first c.args.second) e
    ∙ ap (λ (z : ℕ). comes_before (z ∷ rest) c.args.first c.args.second) q ∙ before_second rest c.args.first c.args.second)

pub returns-then-eq-2 : goal.returns-then-eq-2
returns-then-eq-2 g c =
    let rest : List ℕ = drop (c.loop-kid.i + 1) (kids_of c.args.arena.now c.args.block) in
    let kids : kids_of c.args.arena.now c.args.block ≡ c.in-Block.kids = ap kids_of_entry c.read.ensures.node ∙ ap kids_of_node c.in-Block.is in
    let there : slice_get (kids_of c.args.arena.now c.args.block) c.loop-kid.i ≡ Some c.in-Some.kid =
    ap (λ zs. slice_get zs c.loop-kid.i) kids ∙ sym c.get.ensures ∙ c.in-Some.is in
    let e = drop_at (kids_of c.args.arena.now c.args.block) c.loop-kid.i c.in-Some.kid there in
    let other : c.in-Some.kid ≢ c.args.second = eqb-false c.in-Some.kid c.args.second (sym c.eq.ensures ∙ c.if-eq.false) in
    let q : c.in-Some.kid ≡ c.args.first = eqb-true c.in-Some.kid c.args.first (sym c.eq-in-Some.ensures ∙ c.if-eq-2.true) in
    sym (sym c.loop-kid.invariant.same ∙ ap (λ (zs : List ℕ). comes_before zs c.args.first c.args.second) e
    ∙ ap (λ (z : ℕ). comes_before (z ∷ rest) c.args.first c.args.second) q ∙ before_first rest c.args.first c.args.second (λ r. other (q ∙ r)))

pub loop-kid-preserved : goal.loop-kid-preserved
loop-kid-preserved g c =
    let rest : List ℕ = drop (c.loop-kid.i + 1) (kids_of c.args.arena.now c.args.block) in
    let kids : kids_of c.args.arena.now c.args.block ≡ c.in-Block.kids = ap kids_of_entry c.read.ensures.node ∙ ap kids_of_node c.in-Block.is in
    let there : slice_get (kids_of c.args.arena.now c.args.block) c.loop-kid.i ≡ Some c.in-Some.kid =
    ap (λ zs. slice_get zs c.loop-kid.i) kids ∙ sym c.get.ensures ∙ c.in-Some.is in
    let e = drop_at (kids_of c.args.arena.now c.args.block) c.loop-kid.i c.in-Some.kid there in
    let second : c.in-Some.kid ≢ c.args.second = eqb-false c.in-Some.kid c.args.second (sym c.eq.ensures ∙ c.if-eq.false) in
    let first : c.in-Some.kid ≢ c.args.first = eqb-false c.in-Some.kid c.args.first (sym c.eq-in-Some.ensures ∙ c.if-eq-2.false) in
    record {
      few = c.loop-kid.invariant.few;
      first = omega (arith, same_other c.in-Some.kid c.args.first first, ap (λ zs. times zs c.args.first) e, c.loop-kid.invariant.first);
      second = omega (arith, same_other c.in-Some.kid c.args.second second, ap (λ zs. times zs c.args.second) e, c.loop-kid.invariant.second);
      same = sym (before_rest c.in-Some.kid rest c.args.first c.args.second first second)
          ∙ sym (ap (λ (zs : List ℕ). comes_before zs c.args.first c.args.second) e) ∙ c.loop-kid.invariant.same;
    }

pub unreachable-requires-2 : goal.unreachable-requires-2
unreachable-requires-2 g c =
    let kids : kids_of c.args.arena.now c.args.block ≡ c.in-Block.kids = ap kids_of_entry c.read.ensures.node ∙ ap kids_of_node c.in-Block.is in
    let e : drop c.loop-kid.i (kids_of c.args.arena.now c.args.block) ≡ [] =
    ap (drop c.loop-kid.i) kids ∙ drop_none c.in-Block.kids c.loop-kid.i (sym c.get.ensures ∙ c.in_default-get.is) in
    omega (arith, ap (λ zs. times zs c.args.first) e, c.loop-kid.invariant.first)

pub read-requires : goal.read-requires
read-requires g c = block_live (entry c.args.arena.now c.args.block) c.requires.block

pub loop-kid-smaller : goal.loop-kid-smaller
loop-kid-smaller g c =
    let kids : kids_of c.args.arena.now c.args.block ≡ c.in-Block.kids = ap kids_of_entry c.read.ensures.node ∙ ap kids_of_node c.in-Block.is in
    let there : slice_get (kids_of c.args.arena.now c.args.block) c.loop-kid.i ≡ Some c.in-Some.kid =
    ap (λ zs. slice_get zs c.loop-kid.i) kids ∙ sym c.get.ensures ∙ c.in-Some.is in
    let w = slice_get_within (kids_of c.args.arena.now c.args.block) c.loop-kid.i c.in-Some.kid there in
    omega (arith, w)

pub overflow_add-i : goal.overflow_add-i
overflow_add-i g c =
    let kids : kids_of c.args.arena.now c.args.block ≡ c.in-Block.kids = ap kids_of_entry c.read.ensures.node ∙ ap kids_of_node c.in-Block.is in
    let there : slice_get (kids_of c.args.arena.now c.args.block) c.loop-kid.i ≡ Some c.in-Some.kid =
    ap (λ zs. slice_get zs c.loop-kid.i) kids ∙ sym c.get.ensures ∙ c.in-Some.is in
    let w = slice_get_within (kids_of c.args.arena.now c.args.block) c.loop-kid.i c.in-Some.kid there in
    omega (arith, w, c.loop-kid.invariant.few)
