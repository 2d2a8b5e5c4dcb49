use Rattle.std.proofs.Common.{◌<◌, All, rules, subst, sym, ◌∙◌, ap}
use Rattle.std.specs.BTreeMap as tree
use Rattle.std.proofs.lemmas.Result.{on_err_weaker, on_ok_weaker}
use Rattle.ft_cells.specs.CellTables.{CellState, crossing, crossing_cmp, with_write}
use Rattle.ft_cells.proofs.CellEntries.{changed_entries, or_new, same_entries}
use Rattle.ft_cells.proofs.cells.entries.write_at.Goals as goal

pub write-requires : goal.write-requires
write-requires c =
    subst (λ (x : CellState). All (λ w. w.0 < c.args.stage) x.pending)
    (sym (or_new (tree.get crossing_cmp c.args.cells.now c.args.place) _ c.new.result c.or_insert-cell.result.now c.new.ensures c.in_ok-cells.ensures.value
    c.or_insert-cell.ensures.value)) c.requires

pub returns-clause-ok : goal.returns-clause-ok
returns-clause-ok c =
    let cell = c.write.new.self in
    on_ok_weaker c.write.result (λ is r d.
    changed_entries c.args.cells.now c.args.place.line c.args.place.across r d (with_write c.args.stage c.args.value) _ _ cell (search rules)
    ((c.in_ok-cells.ensures.update.0 cell).0 (crossing r d))
    (is ∙ ap (with_write c.args.stage c.args.value)
    (or_new (tree.get crossing_cmp c.args.cells.now c.args.place) _ c.new.result c.or_insert-cell.result.now c.new.ensures c.in_ok-cells.ensures.value
    c.or_insert-cell.ensures.value)))
    c.write.ensures.ok

pub returns-clause-err : goal.returns-clause-err
returns-clause-err c =
    let cell = c.write.new.self in
    on_err_weaker c.write.result (λ is r d.
    same_entries c.args.cells.now c.args.place.line c.args.place.across r d _ _ cell (search rules)
    ((c.in_ok-cells.ensures.update.0 cell).0 (crossing r d))
    (is ∙ or_new (tree.get crossing_cmp c.args.cells.now c.args.place) _ c.new.result c.or_insert-cell.result.now c.new.ensures c.in_ok-cells.ensures.value
    c.or_insert-cell.ensures.value))
    c.write.ensures.err
