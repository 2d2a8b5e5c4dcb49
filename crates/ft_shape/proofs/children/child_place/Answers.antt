use Rattle.std.proofs.Common.{◌≡◌, [], Some, drop, slice_get, length, ap, sym, ◌∙◌, arith}
use Rattle.std.proofs.lemmas.Bool.{eqb-false}
use Rattle.ft_arena.specs.Ids.{times}
use Rattle.ft_arena.specs.Forest.{kids_of, kids_of_entry, kids_of_node}
use Rattle.ft_arena.proofs.IdLemmas.{same_other}
use Rattle.ft_shape.proofs.Lists.{drop_at, drop_none}
use Rattle.ft_shape.proofs.children.child_place.Goals as goal

pub loop-kid-init : goal.loop-kid-init
loop-kid-init g c =
    let kids : kids_of c.args.arena.now c.args.block ≡ c.in-Block.kids = ap kids_of_entry c.read.ensures.node ∙ ap kids_of_node c.in-Block.is in
    record { few = omega (arith, ap length kids, c.len-count.ensures.few, c.len-count.ensures.value); here = c.requires.child }

pub loop-kid-preserved : goal.loop-kid-preserved
loop-kid-preserved g c =
    let kids : kids_of c.args.arena.now c.args.block ≡ c.in-Block.kids = ap kids_of_entry c.read.ensures.node ∙ ap kids_of_node c.in-Block.is in
    let there : slice_get (kids_of c.args.arena.now c.args.block) c.loop-kid.i ≡ Some c.in-Some.kid =
    ap (λ zs. slice_get zs c.loop-kid.i) kids ∙ sym c.get.ensures ∙ c.in-Some.is in
    let e = drop_at (kids_of c.args.arena.now c.args.block) c.loop-kid.i c.in-Some.kid there in
    let other = same_other c.in-Some.kid c.args.child (eqb-false c.in-Some.kid c.args.child (sym c.eq.ensures ∙ c.if-eq.false)) in
    record { few = c.loop-kid.invariant.few; here = omega (arith, other, ap (λ zs. times zs c.args.child) e, c.loop-kid.invariant.here) }

pub unreachable-requires-2 : goal.unreachable-requires-2
unreachable-requires-2 g c =
    let kids : kids_of c.args.arena.now c.args.block ≡ c.in-Block.kids = ap kids_of_entry c.read.ensures.node ∙ ap kids_of_node c.in-Block.is in
    let e : drop c.loop-kid.i (kids_of c.args.arena.now c.args.block) ≡ [] =
    ap (drop c.loop-kid.i) kids ∙ drop_none c.in-Block.kids c.loop-kid.i (sym c.get.ensures ∙ c.in_default-get.is) in
    omega (arith, ap (λ zs. times zs c.args.child) e, c.loop-kid.invariant.here)
