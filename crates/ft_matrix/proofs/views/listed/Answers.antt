use Rattle.std.proofs.Common.{◌++◌, sym, ◌∙◌, ap, append-nil, map}
use Rattle.ft_matrix.specs.Seen.{cell_of}
use Rattle.ft_matrix.proofs.views.listed.Goals as goal

pub returns-clause-cells : goal.returns-clause-cells
returns-clause-cells c =
    sym (append-nil c.loop-row.cells) ∙ ap (λ es. c.loop-row.cells ++ map cell_of es) (sym c.in-None.ensures.steps.0) ∙ c.loop-row.invariant
    ∙ ap (map cell_of) c.into_iter-row-iterator.ensures.into_iter_gives.0
