use Rattle.std.proofs.Common.{◌≡◌, drop}
use Rattle.ft_plain_document.specs.WrittenCells.{cells_after_stages}
use Rattle.ft_plain_document.proofs.documents.own_cells.write_stages.Given as goal

-- the rest of the stages makes of the cells what all made of those at first
abbrev pub invariant-loop-stage : goal.invariant-loop-stage
invariant-loop-stage l = cells_after_stages l.cells (drop l.stage-index l.stages) ≡ cells_after_stages l.initial.cells l.stages
