-- What a view shows of a grid, and what a summary has of it.
use Rattle.std.specs.Prelude.{◌≡◌, ℕ, List, [], length}
use Rattle.ft_msg.specs.declared.views.View.{View}
use Rattle.ft_sumdoc.specs.declared.summary.SumDoc.{SumDoc}
use Rattle.ft_op.specs.Document.{Document}
use Rattle.ft_op.specs.Stages.{Stage}
use Rattle.ft_msg.specs.Content.{all_cells, shown, stage_view}
use Rattle.ft_msg.specs.Summary.{trim}
use Rattle.ft_msg.specs.SummaryOf.{unit_runs}

-- a view with what is shown of rows, columns and cells at the last stage
abbrev pub with_grid : ℕ → Document → List Stage → View → View
with_grid last doc stages view =
    let rows = stage_view last doc.rows.items in
    let cols = stage_view last doc.cols.items in
    record view { rows = length rows; cols = length cols; cells = all_cells doc.cells stages cols 0 rows }

-- a summary with what one has of rows, columns and cells
abbrev pub with_units : Document → SumDoc → SumDoc
with_units doc sum =
    let kept = trim doc in
    record sum { rows = unit_runs kept.rows.items; cols = unit_runs kept.cols.items; cells = (shown kept).cells }

-- the lists of rows, columns and cells of a summary are empty
pub record HasNoUnits (sum : SumDoc) : Type 0 where
  pub rows : sum.rows ≡ []
  pub cols : sum.cols ≡ []
  pub cells : sum.cells ≡ []
