use Rattle.std.proofs.Common.{sym, ◌∙◌}
use Rattle.std.proofs.lemmas.Result.{on_ok_weaker}
use Rattle.ft_matrix.proofs.LoadedCells.{loads-here, none-copied}
use Rattle.ft_matrix.proofs.summaries.load_cell.Goals as goal

pub returns : goal.returns
returns c =
    on_ok_weaker c.set_acked.result (λ w. loads-here _ _ c.args.cell.now c.args.cells.now c.set_acked.new.self c.in-Some.row c.in-Some-handle_at.col c.in_ok-copy.field-0
    c.in-Some.ensures c.in-Some-handle_at.ensures (none-copied c.get.result _ (sym c.is_some.ensures ∙ c.if-is_some.false) c.get.ensures)
    c.in_ok-copy.ensures w) c.set_acked.ensures.ok
