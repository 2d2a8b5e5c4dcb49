-- The intervals and the cells that an object gives: the form of all of them, and then their values.
use Rattle.std.specs.Prelude.{ℕ, List, Result, Ok}
use Rattle.serde_json.specs.Data.{Data}
use Rattle.ft_json.specs.declared.fields.Field.TheVariants.{Cells, Intervals}
use Rattle.ft_json.specs.Reading.{needed_field}
use Rattle.ft_op.specs.Reading.{◌>>=◌}
use Rattle.ft_sumdoc.specs.declared.summary.CellRec.{CellRec}
use Rattle.ft_sumdoc.specs.declared.summary.IntervalRec.{IntervalRec}
use Rattle.ft_sumdoc.specs.declared.summary.SumFault.{SumFault}
use Rattle.ft_sumdoc.specs.Cells.{cells_form}
use Rattle.ft_sumdoc.specs.Faults.{field_of_summary}
use Rattle.ft_sumdoc.specs.Intervals.{intervals_form}
use Rattle.ft_sumdoc.specs.Runs.{unremoved_units}
use Rattle.ft_sumdoc.specs.Segments.{unremoved_text}
use Rattle.ft_sumdoc.specs.Summary.{Lists, element_count}
use Rattle.ft_sumdoc.specs.Values.{kept_cell, kept_each, kept_interval}

-- the intervals, on so many elements
unfoldable pub intervals_of : ℕ → Data → Result (List IntervalRec) SumFault
intervals_of n d = do
  given ← field_of_summary (needed_field (intervals_form n) d Intervals)
  kept_each kept_interval given

-- the cells, of so many rows and columns
unfoldable pub cells_of : ℕ → ℕ → Data → Result (List CellRec) SumFault
cells_of rows cols d = do
  given ← field_of_summary (needed_field (cells_form rows cols) d Cells)
  kept_each kept_cell given

-- the intervals and the cells beside these lists, once their elements are counted
unfoldable pub shown_beside : Lists → Data → Result (List IntervalRec × List CellRec) SumFault
shown_beside ls d = do
  elements ← element_count ls d
  intervals ← intervals_of (unremoved_text ls.text) d
  cells ← cells_of (unremoved_units ls.rows) (unremoved_units ls.cols) d
  Ok (intervals, cells)
