use Rattle.std.proofs.Common.{◌≡◌, ◌+◌, [], ◌∷◌, drop, sym, ap, ◌∙◌, arith, map}
use Rattle.std.proofs.lemmas.List.{drop_more}
use Rattle.ft_props.specs.Element.{id}
use Rattle.ft_msg.specs.Content.{all_cells, stage_view}
use Rattle.ft_plain_lists.specs.NamedLists.{listed}
use Rattle.ft_plain_lists.specs.PlacedValues.{placed_value}
use Rattle.ft_plain_lists.proofs.PlacedCells.{row-seen, step-unseen}
use Rattle.ft_plain_lists.proofs.shown_grid.push_rows.Goals as goal
use Rattle.ft_plain_lists.proofs.shown_grid.push_rows.Goals.{then-is_seen_at+in_ok-push_row, else-is_seen_at}

pub loop-row-preserved : goal.loop-row-preserved
loop-row-preserved c =
    let cells = c.args.cells.now in
    let stage = c.args.stage in
    let cols = stage_view stage c.args.cols.now in
    let xs = c.args.rows.now in
    let i = c.loop-row.row-index in
    let e = c.row-item.result in
    let before = c.loop-row.invariant in
    let at_front : drop i xs ≡ e ∷ drop (i + 1) xs = drop_more xs i e c.loop-row-test.true ∙ ap (λ y. y ∷ drop (i + 1) xs) (sym c.row-item.is) in
    record {
      counted = elim c.if-is_seen_at.branch [
        | then-is_seen_at+in_ok-push_row w ↦ omega (arith, before.counted, w.place-is)
        | else-is_seen_at w ↦ omega (arith, before.counted, w.place-is)
      ];
      all = elim c.if-is_seen_at.branch [
        | then-is_seen_at+in_ok-push_row w ↦
            row-seen cells cols stage e (drop (i + 1) xs) (drop i xs) c.loop-row.place c.if-is_seen_at.place c.loop-row.shown c.if-is_seen_at.shown
            (all_cells cells [] cols 0 (stage_view stage xs)) (map placed_value w.of.result.now) at_front before.all w.if-is_seen_at.ensures w.place-is
            (ap (map placed_value) (w.of.ensures ∙ ap (λ n. listed n c.in_ok-placed.placed.lists) w.name.ensures) ∙ c.in_ok-placed.ensures (id e))
            (w.shown-is ∙ w.in_ok-push_row.ensures)
        | else-is_seen_at w ↦
            step-unseen (all_cells cells [] cols) stage e (drop (i + 1) xs) (drop i xs) c.loop-row.place c.if-is_seen_at.place c.loop-row.shown c.if-is_seen_at.shown
            (all_cells cells [] cols 0 (stage_view stage xs)) at_front before.all w.if-is_seen_at.ensures w.place-is w.shown-is
      ];
    }
