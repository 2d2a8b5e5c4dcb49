use Rattle.std.proofs.Common.{◌≡◌, ◌≢◌, ℕ, Some, None, false, length, ap, sym, refl, ◌∙◌, arith}
use Rattle.std.proofs.lemmas.Bool.{eqb-true, eqb-false, le-ltb}
use Rattle.ft_arena.specs.Forest.{parent_of}
use Rattle.ft_shape.specs.Tree.{height_of, numbers_before}
use Rattle.ft_block.proofs.OrderLemmas.{comes_before, level, before_above, before_in_block, up_high, up_live, up_child, up_block, top_is_root, high_is_root}
use Rattle.ft_block.proofs.order.is_leaf_before.Goals as goal

pub unreachable-requires : goal.unreachable-requires
unreachable-requires g c =
    let s = c.args.arena.now in
    let t = c.requires.tree in
    let up : parent_of c.args.arena.now c.up.at ≡ Some c.in-Some.block = sym c.parent.ensures ∙ c.in-Some.is in
    let top : parent_of c.args.arena.now c.up.beside ≡ None = sym c.parent-in-Some.ensures ∙ c.in_default-parent.is in
    let root = top_is_root s c.args._root t c.up.beside c.up.invariant.beside top in
    omega (
      arith,
      ap (height_of s) root,
      c.up.invariant.high,
      up_high s c.args._root t c.up.at c.in-Some.block up,
      t.shape.low c.in-Some.block (up_live s c.args._root t c.up.at c.in-Some.block up),
    )

pub is_child_before-requires-clause-block : goal.is_child_before-requires-clause-block
is_child_before-requires-clause-block g c =
    up_block c.args.arena.now c.args._root c.requires.tree c.up.at c.in-Some.block (sym c.parent.ensures ∙ c.in-Some.is)

pub is_child_before-requires-clause-first : goal.is_child_before-requires-clause-first
is_child_before-requires-clause-first g c =
    up_child c.args.arena.now c.args._root c.requires.tree c.up.at c.in-Some.block (sym c.parent.ensures ∙ c.in-Some.is)

pub is_child_before-requires-clause-second : goal.is_child_before-requires-clause-second
is_child_before-requires-clause-second g c =
    let same : c.in-Some.block ≡ c.in-Some-parent.other = eqb-true c.in-Some.block c.in-Some-parent.other (sym c.eq.ensures ∙ c.if-eq.true) in
    let on : parent_of c.args.arena.now c.up.beside ≡ Some c.in-Some.block = sym c.parent-in-Some.ensures ∙ c.in-Some-parent.is ∙ ap Some (sym same) in
    up_child c.args.arena.now c.args._root c.requires.tree c.up.beside c.in-Some.block on

pub returns-then-eq : goal.returns-then-eq
returns-then-eq g c =
    let up : parent_of c.args.arena.now c.up.at ≡ Some c.in-Some.block = sym c.parent.ensures ∙ c.in-Some.is in
    let same : c.in-Some.block ≡ c.in-Some-parent.other = eqb-true c.in-Some.block c.in-Some-parent.other (sym c.eq.ensures ∙ c.if-eq.true) in
    let on : parent_of c.args.arena.now c.up.beside ≡ Some c.in-Some.block = sym c.parent-in-Some.ensures ∙ c.in-Some-parent.is ∙ ap Some (sym same) in
    c.is_child_before.ensures
    ∙ before_in_block c.args.arena.now c.args._root c.requires.tree c.up.at c.up.beside c.in-Some.block (height_of c.args.arena.now c.up.at) up on refl c.up.invariant.high
    ∙ c.up.invariant.same

pub up-preserved : goal.up-preserved
up-preserved g c =
    let s = c.args.arena.now in
    let t = c.requires.tree in
    let up : parent_of c.args.arena.now c.up.at ≡ Some c.in-Some.block = sym c.parent.ensures ∙ c.in-Some.is in
    let on : parent_of c.args.arena.now c.up.beside ≡ Some c.in-Some-parent.other = sym c.parent-in-Some.ensures ∙ c.in-Some-parent.is in
    let differ : c.in-Some.block ≢ c.in-Some-parent.other = eqb-false c.in-Some.block c.in-Some-parent.other (sym c.eq.ensures ∙ c.if-eq.false) in
    let high = up_high s c.args._root t c.up.at c.in-Some.block up in
    record {
      live = up_live s c.args._root t c.up.at c.in-Some.block up;
      beside = up_live s c.args._root t c.up.beside c.in-Some-parent.other on;
      high = omega (arith, high, up_high s c.args._root t c.up.beside c.in-Some-parent.other on, c.up.invariant.high);
      same = ap (λ (n : ℕ). comes_before (level c.args.arena.now c.args._root n) c.in-Some.block c.in-Some-parent.other) high
          ∙ before_above s c.args._root t c.up.at c.up.beside c.in-Some.block c.in-Some-parent.other (height_of c.args.arena.now c.up.at) up on refl c.up.invariant.high differ
          ∙ c.up.invariant.same;
    }

pub returns : goal.returns
returns g c =
    let s = c.args.arena.now in
    let t = c.requires.tree in
    let top : parent_of c.args.arena.now c.up.at ≡ None = sym c.parent.ensures ∙ c.in_default.is in
    let at : c.up.at ≡ c.args._root = top_is_root s c.args._root t c.up.at c.up.invariant.live top in
    let beside : c.up.beside ≡ c.args._root =
    high_is_root s c.args._root t c.up.beside c.up.invariant.beside (c.up.invariant.high ∙ ap (height_of c.args.arena.now) at) in
    let here = level c.args.arena.now c.args._root (height_of c.args.arena.now c.up.at) in
    let none : comes_before (level c.args.arena.now c.args._root (height_of c.args.arena.now c.up.at)) c.up.at c.up.beside ≡ false =
    le-ltb (length (numbers_before here c.up.at)) (length (numbers_before here c.up.beside))
    (omega (arith, ap (λ (z : ℕ). length (numbers_before here z)) (at ∙ sym beside))) in
    sym (sym c.up.invariant.same ∙ none)
