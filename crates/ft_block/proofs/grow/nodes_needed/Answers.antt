use Rattle.std.proofs.Common.{arith}
use Rattle.ft_arena.specs.Forest.{entry}
use Rattle.ft_shape.proofs.Levels.{height_fits}
use Rattle.ft_shape.proofs.KindLemmas.{kind_is_height}
use Rattle.ft_block.proofs.grow.nodes_needed.Goals as goal

pub overflow_add-result : goal.overflow_add-result
overflow_add-result g c =
    omega (
      arith,
      height_fits c.args.arena.now c.args.root c.requires c.first-first.ensures.few,
      kind_is_height (entry c.args.arena.now c.args.root) c.height_at.result
          c.height_at.ensures,
    )

pub returns : goal.returns
returns g c = omega (arith, kind_is_height (entry c.args.arena.now c.args.root) c.height_at.result c.height_at.ensures)
