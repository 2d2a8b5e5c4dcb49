use Rattle.std.proofs.Common.{refl}
use Rattle.ft_matrix.proofs.EmptyGrids.{is-empty}
use Rattle.ft_matrix.proofs.grid.Grid.new.Goals as goal

pub returns : goal.returns
returns c = is-empty _ c.new.ensures.tree c.new.ensures.next c.new-2.ensures.tree c.new-2.ensures.next c.new-3.ensures c.new-4.ensures.items refl refl
