use Rattle.std.proofs.Common.{◌≡◌, ◌-◌, ℕ, [], ◌∷◌, Some, None, ap, sym, ◌∙◌, arith}
use Rattle.ft_arena.specs.Forest.{entry, parent_of}
use Rattle.ft_shape.specs.Tree.{total, length_of, numbers_before, below, height_of}
use Rattle.ft_block.specs.Tree.{by_view}
use Rattle.ft_shape.proofs.KindLemmas.{block_live}
use Rattle.ft_shape.proofs.FitLemmas.{kids_fit}
use Rattle.ft_shape.proofs.InsertLemmas.{leaf_height, leaf_live}
use Rattle.ft_block.proofs.PositionLemmas.{po_block, before_up, before_top, total-before_le}
use Rattle.ft_block.proofs.position.kept_before.Goals as goal

pub up-init : goal.up-init
up-init g c =
    let s = c.args.arena.now in
    let h : height_of c.args.arena.now c.args.leaf ≡ 0 = leaf_height (entry c.args.arena.now c.args.leaf) c.requires.leaf in
    let e : height_of c.args.arena.now c.args._root - height_of c.args.arena.now c.args.leaf ≡ height_of c.args.arena.now c.args._root = omega (arith, h) in
    let all : below c.args.arena.now (height_of c.args.arena.now c.args._root - height_of c.args.arena.now c.args.leaf) (c.args._root ∷ []) ≡ c.args.arena.now.leaves =
    ap (λ (n : ℕ). below c.args.arena.now n (c.args._root ∷ [])) e ∙ sym c.requires.tree.leaves in
    record {
      live = leaf_live (entry c.args.arena.now c.args.leaf) c.requires.leaf;
      so_far =
          omega (arith, ap (λ zs. total (length_of (by_view g.L.Leaf.size g.L.Leaf.element c.args.view) c.args.arena.now) (numbers_before zs c.args.leaf)) all);
    }

pub length_before-sum-requires-clause-fits : goal.length_before-sum-requires-clause-fits
length_before-sum-requires-clause-fits g c =
    let up : parent_of c.args.arena.now c.up.at ≡ Some c.in-Some.block = sym c.parent.ensures ∙ c.in-Some.is in
    omega (
      arith,
      kids_fit (by_view g.L.Leaf.size g.L.Leaf.element c.args.view) c.args.arena.now c.args._root None c.requires.tree.shape c.in-Some.block
          (po_block (by_view g.L.Leaf.size g.L.Leaf.element c.args.view) c.args.arena.now c.args._root c.requires.tree c.requires.sums c.up.at c.in-Some.block up)
          (λ y k e. cc e) (λ k b l. c.requires.sums k b (λ e. cc)),
      ap (total (length_of (by_view g.L.Leaf.size g.L.Leaf.element c.args.view) c.args.arena.now))
          c.requires.tree.leaves,
      c.requires.fits,
    )

pub overflow_add-sum : goal.overflow_add-sum
overflow_add-sum g c =
    let up : parent_of c.args.arena.now c.up.at ≡ Some c.in-Some.block = sym c.parent.ensures ∙ c.in-Some.is in
    omega (
      arith,
      before_up (by_view g.L.Leaf.size g.L.Leaf.element c.args.view) c.args.arena.now c.args._root c.requires.tree c.requires.sums c.up.at c.in-Some.block up,
      c.up.invariant.so_far,
      total-before_le (length_of (by_view g.L.Leaf.size g.L.Leaf.element c.args.view) c.args.arena.now) c.args.arena.now.leaves c.args.leaf,
      c.requires.fits,
      c.length_before-sum.ensures,
    )

pub up-preserved : goal.up-preserved
up-preserved g c =
    let up : parent_of c.args.arena.now c.up.at ≡ Some c.in-Some.block = sym c.parent.ensures ∙ c.in-Some.is in
    record {
      live = block_live (entry c.args.arena.now c.in-Some.block)
          (po_block (by_view g.L.Leaf.size g.L.Leaf.element c.args.view) c.args.arena.now c.args._root c.requires.tree c.requires.sums c.up.at c.in-Some.block up);
      so_far =
          omega (
            arith,
            before_up (by_view g.L.Leaf.size g.L.Leaf.element c.args.view) c.args.arena.now c.args._root c.requires.tree c.requires.sums c.up.at c.in-Some.block
                up,
            c.up.invariant.so_far,
            c.length_before-sum.ensures,
          );
    }

pub returns : goal.returns
returns g c =
    let top : parent_of c.args.arena.now c.up.at ≡ None = sym c.parent.ensures ∙ c.in_default.is in
    let none : total (length_of (by_view g.L.Leaf.size g.L.Leaf.element c.args.view) c.args.arena.now)
    (numbers_before (below c.args.arena.now (height_of c.args.arena.now c.args._root - height_of c.args.arena.now c.up.at) (c.args._root ∷ [])) c.up.at) ≡ 0 =
    before_top (by_view g.L.Leaf.size g.L.Leaf.element c.args.view) c.args.arena.now c.args._root c.requires.tree c.up.at c.up.invariant.live top in
    omega (arith, none, c.up.invariant.so_far)

pub length_before-sum-requires-clause-floors : goal.length_before-sum-requires-clause-floors
length_before-sum-requires-clause-floors g c = c.requires.floors

pub length_before-sum-requires-clause-kept : goal.length_before-sum-requires-clause-kept
length_before-sum-requires-clause-kept g c = c.requires.kept

pub length_before-sum-requires-clause-forest : goal.length_before-sum-requires-clause-forest
length_before-sum-requires-clause-forest g c = c.requires.tree.shape.forest

pub length_before-sum-requires-clause-all : goal.length_before-sum-requires-clause-all
length_before-sum-requires-clause-all g c =
    let measure = by_view g.L.Leaf.size g.L.Leaf.element c.args.view in
    let up : parent_of c.args.arena.now c.up.at ≡ Some c.in-Some.block = sym c.parent.ensures ∙ c.in-Some.is in
    c.requires.sums c.in-Some.block (po_block measure c.args.arena.now c.args._root c.requires.tree c.requires.sums c.up.at c.in-Some.block up) (λ e. cc e)
