use Rattle.std.proofs.Common.{arith, ℕ, Option, subst, ap, ◌∙◌}
use Rattle.ft_block.specs.Inside.{IsRooted}
use Rattle.ft_block.proofs.ViewLemmas.{all_fit}
use Rattle.ft_block.proofs.SoundLemmas.{rooted_forest, leaf_rooted}
use Rattle.ft_shape.specs.Tree.{length_of, numbers_before, total}
use Rattle.ft_block.specs.declared.leaves.View.{View}
use Rattle.ft_block.specs.Tree.{by_view}
use Rattle.ft_block.proofs.counted.position_in.Goals as goal

pub kept_before-requires-clause-fits : goal.kept_before-requires-clause-fits
kept_before-requires-clause-fits g c = omega (
  arith,
  all_fit g.L.Leaf.size g.L.Leaf.element c.kept_view-view.result c.args.arena.now (rooted_forest c.args.arena.now c.args.root c.requires.sound.rooted),
  c.requires.sound.fits,
)

pub kept_before-requires-clause-tree : goal.kept_before-requires-clause-tree
kept_before-requires-clause-tree g c = subst (λ (o : Option ℕ). IsRooted c.args.arena.now o) c.in-Some.is c.requires.sound.rooted

pub kept_before-requires-clause-floors : goal.kept_before-requires-clause-floors
kept_before-requires-clause-floors g c = c.requires.sound.floors

pub kept_before-requires-clause-leaf : goal.kept_before-requires-clause-leaf
kept_before-requires-clause-leaf g c = c.requires.live

pub unreachable-requires : goal.unreachable-requires
unreachable-requires g c = leaf_rooted c.args.arena.now c.args.root c.args.leaf c.requires.sound.rooted c.requires.live c.in_default.is

pub kept_view-view-requires : goal.kept_view-view-requires
kept_view-view-requires g c = c.requires.floor

pub kept_before-requires-clause-kept : goal.kept_before-requires-clause-kept
kept_before-requires-clause-kept g c = c.kept_view-view.ensures.kept

pub kept_before-requires-clause-sums : goal.kept_before-requires-clause-sums
kept_before-requires-clause-sums g c = c.requires.sound.sums c.kept_view-view.result c.kept_view-view.ensures.kept

pub returns : goal.returns
returns g c = c.kept_before.ensures
    ∙ ap (λ (v : View). total (length_of (by_view g.L.Leaf.size g.L.Leaf.element v) c.args.arena.now) (numbers_before c.args.arena.now.leaves
    c.args.leaf)) c.kept_view-view.ensures.value
