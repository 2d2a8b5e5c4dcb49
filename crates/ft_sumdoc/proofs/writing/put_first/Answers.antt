use Rattle.std.proofs.Common.{◌∙◌, ap, ap₂, subst, sym}
use Rattle.std.specs.Prelude.{codes}
use Rattle.std.specs.List.{AllByRecursion}
use Rattle.std.proofs.lemmas.Result.{on_ok_weaker}
use Rattle.serde_json.specs.Data.{array, put}
use Rattle.serde_json.specs.View.{members_view}
use Rattle.ft_op.specs.Representable.{IsText}
use Rattle.ft_op.specs.Written.{written_count, written_items, written_text}
use Rattle.ft_sumdoc.specs.declared.summary.CellRec.{CellRec}
use Rattle.ft_sumdoc.specs.Segments.{text_length}
use Rattle.ft_sumdoc.specs.Valid.{IsValue}
use Rattle.ft_sumdoc.specs.Written.{written_cell_record, written_unit_run}
use Rattle.ft_sumdoc.proofs.GivenLists.{nothing_asked}
use Rattle.ft_sumdoc.proofs.writing.put_first.Goals as goal

pub put_each-requires : goal.put_each-requires
put_each-requires c = subst (AllByRecursion (λ (cell : CellRec). IsValue cell.value)) (sym c.as_slice.ensures) c.requires.cells

pub put_each-requires-2 : goal.put_each-requires-2
put_each-requires-2 c = nothing_asked c.as_slice-2.result.now

pub put_each-requires-3 : goal.put_each-requires-3
put_each-requires-3 c = nothing_asked c.as_slice-3.result.now

pub returns-clause-value : goal.returns-clause-value
returns-clause-value c =
    let old = members_view c.args.members.now.entries in
    let cells = c.in_ok-put_each.ensures.value ∙ ap (λ xs. put (codes "cells") (array
    (written_items written_cell_record xs)) old) c.as_slice.ensures in
    let cols = c.in_ok-put_each-2.ensures.value ∙ ap₂ (λ xs ms. put (codes "cols") (array
    (written_items written_unit_run xs)) ms) c.as_slice-2.ensures cells in
    let names = c.in_ok-put_each-3.ensures.value ∙ ap₂ (λ xs ms. put (codes "conns") (array
    (written_items written_text xs)) ms) c.as_slice-3.ensures cols in
    on_ok_weaker c.put_number.result
    (λ e. e ∙ ap₂ (λ n ms. put (codes "count") (written_count n) ms) (c.text_len-elements.ensures
    ∙ ap text_length c.as_slice-4.ensures) names) c.put_number.ensures

pub returns-clause-names : goal.returns-clause-names
returns-clause-names c =
    on_ok_weaker c.put_number.result (λ _. subst (AllByRecursion IsText) c.as_slice-3.ensures c.in_ok-put_each-3.ensures.representable)
    c.put_number.ensures
