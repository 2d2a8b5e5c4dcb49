-- A client that keeps less than the whole lists, and is as good: what it left out lies at or below the floor, and
-- nothing names it. A replica is seen as such a client.
use Rattle.std.specs.Prelude.{◌≡◌, Bool, false, ◌||◌, List, None}
use Rattle.std.specs.List.{list_any}
use Rattle.ft_op.specs.declared.operations.CellOp.TheVariants.{Set}
use Rattle.ft_props.specs.Element.{ListElement, ElementId, has_sequenced_removal, is_named_by}
use Rattle.ft_props.specs.Compaction.{KeepsList}
use Rattle.ft_op.specs.Intervals.{Interval}
use Rattle.ft_op.specs.Cells.{Cell, cell_value}
use Rattle.ft_op.specs.Document.{Document}
use Rattle.ft_op.specs.Stages.{Stage}
use Rattle.ft_msg.specs.Client.{NaiveClient, floor, stages_of}
use Rattle.ft_msg.specs.Indexed.{IndexedClient, indexed_client}
use Rattle.ft_op.specs.Operation.{OnGrid, OnIntervals}

-- whether an interval names the element
abbrev pub interval_holds : ElementId → Interval → Bool
interval_holds x i = is_named_by x i.start || is_named_by x i.end

-- whether the interval operation of a stage names the element of the text
abbrev pub stage_holds_text : ElementId → Stage → Bool
stage_holds_text x t = elim t.sub_operation [ OnIntervals op ↦ is_named_by x t.names.first || is_named_by x t.names.second | _ ↦ false ]

-- whether the cell write of a stage names the row
abbrev pub stage_holds_row : ElementId → Stage → Bool
stage_holds_row x t = elim t.sub_operation [ OnGrid op ↦ elim op [ Set i j value ↦ is_named_by x t.names.first | _ ↦ false ] | _ ↦ false ]

-- whether the cell write of a stage names the column
abbrev pub stage_holds_col : ElementId → Stage → Bool
stage_holds_col x t = elim t.sub_operation [ OnGrid op ↦ elim op [ Set i j value ↦ is_named_by x t.names.second | _ ↦ false ] | _ ↦ false ]

-- whether an interval or a pending stage names the element of the text
abbrev pub holds_text : NaiveClient → ElementId → Bool
holds_text x i = list_any (interval_holds i) x.doc.intervals || list_any (stage_holds_text i) (stages_of x)

-- whether a pending write names the row
abbrev pub holds_row : NaiveClient → ElementId → Bool
holds_row x i = list_any (stage_holds_row i) (stages_of x)

-- whether a pending write names the column
abbrev pub holds_col : NaiveClient → ElementId → Bool
holds_col x i = list_any (stage_holds_col i) (stages_of x)

-- the kept cells show what all of them show wherever no removal of the row or of the column is sequenced, and nothing where
-- these show nothing
pub record KeepsCells (rows cols : List ListElement) (kept cells : List Cell) : Type 0 where
  pub values : (row col : ElementId) → has_sequenced_removal rows row ≡ false → has_sequenced_removal cols col ≡ false → cell_value row col kept ≡ cell_value row col cells
  pub none : (row col : ElementId) → cell_value row col cells ≡ None → cell_value row col kept ≡ None

-- the document keeps that of the client x, but for what compaction takes away
pub record KeepsDocument (x : NaiveClient) (kept : Document) : Type 0 where
  pub text : KeepsList (floor x) (holds_text x) kept.text x.doc.text
  pub rows : KeepsList (floor x) (holds_row x) kept.rows x.doc.rows
  pub cols : KeepsList (floor x) (holds_col x) kept.cols x.doc.cols
  pub cells : KeepsCells x.doc.rows.items x.doc.cols.items kept.cells x.doc.cells
  pub rest : kept ≡ record x.doc { text = kept.text; rows = kept.rows; cols = kept.cols; cells = kept.cells }

-- the client keeps x, but for what compaction takes away
pub record IsCompacted (kept x : NaiveClient) : Type 0 where
  pub doc : KeepsDocument x kept.doc
  pub rest : kept ≡ record x { doc = kept.doc }

-- what a replica shows stands for x: a client that keeps x shows it
pub record StandsFor (replica : IndexedClient) (x : NaiveClient) : Type 0 where
  pub kept : NaiveClient
  pub shows : indexed_client kept ≡ replica
  pub keeps : IsCompacted kept x
