use Rattle.std.proofs.Common.{ℕ, Option, subst, arith}
use Rattle.ft_arena.specs.Forest.{entry}
use Rattle.ft_shape.specs.Tree.{IsTree}
use Rattle.ft_shape.proofs.Levels.{height_fits}
use Rattle.ft_shape.proofs.KindLemmas.{kind_is_height}
use Rattle.ft_overlap.specs.Inside.{IsRooted}
use Rattle.ft_overlap.proofs.counted.reserve_in.Goals as goal

pub overflow_add-height : goal.overflow_add-height
overflow_add-height g c =
    let tree : IsTree c.args.arena.now c.in-Some.root = subst (λ (o : Option ℕ). IsRooted c.args.arena.now o) c.in-Some.is c.requires.rooted in
    omega (
      arith,
      height_fits c.args.arena.now c.in-Some.root tree c.first-first.ensures.few,
      kind_is_height (entry c.args.arena.now c.in-Some.root) c.height_at-height.result c.height_at-height.ensures,
    )
