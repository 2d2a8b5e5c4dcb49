use Rattle.std.proofs.Common.{rules, not}
use Rattle.std.proofs.lemmas.Fn.{filter_same}
use Rattle.ft_op.specs.Cells.{is_cell}
use Rattle.ft_plain_lists.proofs.cells.PlainCells.take_out.Goals as goal

pub returns : goal.returns
returns c =
    rw (← c.self.view_is)
    (filter_same _ (λ other. not (is_cell c.args.row c.args.col other)) _ (λ x b f' k. search rules) c.self.inside.items.items _ c.retain.ensures.filtered)
