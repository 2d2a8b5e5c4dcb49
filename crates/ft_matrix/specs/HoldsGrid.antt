-- Of which named documents a grid holds the part of rows, columns and cells.
use Rattle.std.specs.Prelude.{◌≡◌, List, [], map}
use Rattle.ft_props.specs.Element.{nameless}
use Rattle.ft_op.specs.Document.{Document}
use Rattle.ft_op.specs.Stages.{Stage}
use Rattle.ft_msg.specs.Content.{all_cells}
use Rattle.ft_laws_names.specs.GridFacts.{grid_stages}
use Rattle.ft_matrix.specs.GridStates.{GridState}

-- the grid holds the rows, the columns and the cells of the document, and the pending stages that are on these
pub record HoldsGrid (s : GridState) (doc : Document) (pending : List Stage) : Type 0 where
  pub rows : map nameless doc.rows.items ≡ s.rows
  pub cols : map nameless doc.cols.items ≡ s.cols
  pub rows_made : doc.rows.made ≡ s.rows_made
  pub cols_made : doc.cols.made ≡ s.cols_made
  pub cells : all_cells doc.cells [] doc.cols.items 0 doc.rows.items ≡ s.cells
  pub stages : grid_stages doc pending ≡ s.stages
