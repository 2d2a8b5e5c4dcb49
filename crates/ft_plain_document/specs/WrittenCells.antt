-- The cells with what is pending on them.
use Rattle.std.specs.Prelude.{List, [], ◌∷◌}
use Rattle.ft_op.specs.Cells.{Cell}
use Rattle.ft_op.specs.Stages.{Stage}
use Rattle.ft_msg.specs.Acknowledgement.{cells_after_stage}

-- the cells after the writes of stages in order
abbrev pub cells_after_stages : List Cell → List Stage → List Cell
cells_after_stages cells [] = cells
cells_after_stages cells (t ∷ stages) = cells_after_stages (cells_after_stage t.sub_operation t.names cells) stages
