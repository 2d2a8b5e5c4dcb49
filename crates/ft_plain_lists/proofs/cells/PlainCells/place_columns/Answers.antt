use Rattle.std.proofs.Common.{◌≡◌, ◌+◌, ◌∷◌, drop, sym, ap, ◌∙◌, arith, map}
use Rattle.std.proofs.lemmas.List.{drop_more}
use Rattle.ft_props.specs.Element.{id}
use Rattle.ft_plain_lists.specs.NamedLists.{listed}
use Rattle.ft_plain_lists.specs.PlacedCells.{placed_cells}
use Rattle.ft_plain_lists.specs.PlacedValues.{cell_behind, placed_value}
use Rattle.ft_msg.specs.Content.{stage_view}
use Rattle.ft_plain_lists.proofs.PlacedCells.{column-seen, step-unseen}
use Rattle.ft_plain_lists.proofs.cells.PlainCells.place_columns.Goals as goal
use Rattle.ft_plain_lists.proofs.cells.PlainCells.place_columns.Goals.{then-is_seen_at+in_ok-place_column, else-is_seen_at}

pub loop-col-preserved : goal.loop-col-preserved
loop-col-preserved c =
    let cells = c.args.self.now in
    let stage = c.args.stage in
    let xs = c.args.cols.now in
    let i = c.loop-col.col-index in
    let e = c.col-item.result in
    let before = c.loop-col.invariant in
    let at_front : drop i xs ≡ e ∷ drop (i + 1) xs = drop_more xs i e c.loop-col-test.true ∙ ap (λ y. y ∷ drop (i + 1) xs) (sym c.col-item.is) in
    record {
      counted = elim c.if-is_seen_at.branch [
        | then-is_seen_at+in_ok-place_column w ↦ omega (arith, before.counted, w.place-is)
        | else-is_seen_at w ↦ omega (arith, before.counted, w.place-is)
      ];
      all = λ x. elim c.if-is_seen_at.branch [
        | then-is_seen_at+in_ok-place_column w ↦
            column-seen cells x stage e (drop (i + 1) xs) (drop i xs) c.loop-col.place c.if-is_seen_at.place
            (map placed_value (listed x c.loop-col.rows.lists)) (map placed_value (listed x c.if-is_seen_at.rows.lists))
            (placed_cells cells x 0 (stage_view stage xs)) (map cell_behind w.of.result.now) at_front (before.all x) w.if-is_seen_at.ensures w.place-is
            (ap (map cell_behind) (w.of.ensures ∙ ap (λ n. listed n c.args.columns.now.lists) w.name.ensures) ∙ c.requires.columns (id e))
            (ap (λ rows. map placed_value (listed x rows.lists)) w.rows-is ∙ w.in_ok-place_column.ensures x)
        | else-is_seen_at w ↦
            step-unseen (placed_cells cells x) stage e (drop (i + 1) xs) (drop i xs) c.loop-col.place c.if-is_seen_at.place
            (map placed_value (listed x c.loop-col.rows.lists)) (map placed_value (listed x c.if-is_seen_at.rows.lists))
            (placed_cells cells x 0 (stage_view stage xs)) at_front (before.all x) w.if-is_seen_at.ensures w.place-is
            (ap (λ rows. map placed_value (listed x rows.lists)) w.rows-is)
      ];
    }
