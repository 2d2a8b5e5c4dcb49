use Rattle.std.proofs.Common.{◌+◌, ◌++◌, ◌∷◌, ◌∙◌, ap, drop, sym}
use Rattle.std.proofs.Math.Path.{ap₂}
use Rattle.std.proofs.lemmas.List.{drop_more}
use Rattle.ft_plain_summary.specs.NamedPlaces.{named_cell, named_cells}
use Rattle.ft_plain_summary.proofs.NamedAtPlaces.{named_cells-with}
use Rattle.ft_plain_summary.proofs.named.named_cells.Goals as goal

pub loop-rec-preserved : goal.loop-rec-preserved
loop-rec-preserved c =
    let rows = c.args.rows.now in
    let cols = c.args.cols.now in
    let recs = c.args.recs.now in
    let i = c.loop-rec.rec-index in
    let rec = c.rec-item.result in
    let front = drop_more recs i rec c.loop-rec-test.true ∙ ap (λ x. x ∷ drop (i + 1) recs) (sym c.rec-item.is) in
    let places = ap₂ (λ row col. c.loop-rec.cells ++ named_cell row col rec) c.name_at-row.ensures c.name_at-col.ensures in
    named_cells-with rows cols rec (drop (i + 1) recs) (drop i recs) c.loop-rec.cells c.push_cell.new.cells (named_cells rows cols recs)
    front (c.in_ok-push_cell.ensures ∙ places) c.loop-rec.invariant
