-- What holds of each summary that is read, and is asked of one that is written: its numbers, stamps, ends and places are in
-- range, names, intervals and cells are in order, and its values are none that are refused.
use Rattle.std.specs.Prelude.{ℕ, ◌^◌, Bool, true, false, ◌&&◌, ◌||◌, nat_le, nat_lt, IsTrue, IsFalse, List, [], ◌∷◌, length, if◌then◌else◌}
use Rattle.std.specs.List.{AllByRecursion, list_all}
use Rattle.ft_json.specs.Bounds.{kept_levels}
use Rattle.ft_json.specs.Canonical.{IsTextWithin}
use Rattle.ft_props.specs.Properties.{PropertyList, ValueBytes}
use Rattle.ft_op.specs.Cells.{is_null}
use Rattle.ft_op.specs.WellFormed.{is_count}
use Rattle.ft_sumdoc.specs.declared.summary.CellRec.{CellRec}
use Rattle.ft_sumdoc.specs.declared.summary.IntervalRec.{IntervalRec}
use Rattle.ft_sumdoc.specs.declared.summary.Mark.{Mark}
use Rattle.ft_sumdoc.specs.declared.summary.RunRec.{RunRec}
use Rattle.ft_sumdoc.specs.declared.summary.Seg.{Seg}
use Rattle.ft_sumdoc.specs.declared.summary.Seg.TheVariants.{Chars, Marker}
use Rattle.ft_sumdoc.specs.declared.summary.SegRec.{SegRec}
use Rattle.ft_sumdoc.specs.declared.summary.SumDoc.{SumDoc}
use Rattle.ft_sumdoc.specs.Cells.{is_place_before}
use Rattle.ft_sumdoc.specs.Counts.{are_distinct_names}
use Rattle.ft_sumdoc.specs.Forms.{rises}
use Rattle.ft_sumdoc.specs.Intervals.{are_shown_ends, is_name_before}
use Rattle.ft_sumdoc.specs.Runs.{unit_count, unremoved_units}
use Rattle.ft_sumdoc.specs.Segments.{text_length, unremoved_text}
use Rattle.ft_sumdoc.specs.Stamps.{Bounds, are_removals, is_old, is_recent, is_universal, same_mark}

-- ---- stamps

-- what the stamps of a summary are tested with
abbrev pub bounds : SumDoc → Bounds
bounds sum = record { min = sum.min; seq = sum.seq; conns = length sum.conns }

-- whether an insertion is universal or above the minimum, and the removals are in range and in order
abbrev pub are_stamps : Bounds → Mark → List Mark → Bool
are_stamps b ins dels = (is_universal ins || is_recent b ins) && are_removals b ins.seq dels

-- whether the author is that of the insertion; if that is universal, it is unknown or one at or below the minimum
abbrev pub is_author : Bounds → Mark → Mark → Bool
is_author b ins by = if is_universal ins then is_universal by || is_old b by else same_mark by ins

-- ---- values

-- a value that isn't null, of at most 100 levels
abbrev pub IsValue : ValueBytes → Type 0
IsValue v = IsTextWithin kept_levels v × IsFalse (is_null v)

-- each value is one
abbrev pub HasValues : PropertyList → Type 0
HasValues props = AllByRecursion (λ p. IsValue p.1) props

-- ---- segments, runs, intervals, cells

-- whether it is characters, at least one, or a marker whose reference type is a count
abbrev pub is_segment_body : Seg → Bool
is_segment_body (Chars []) = false
is_segment_body (Chars (c ∷ cs)) = true
is_segment_body (Marker ref_type) = is_count ref_type

pub record IsSegment (b : Bounds) (seg : SegRec) : Type 0 where
  pub body : IsTrue (is_segment_body seg.body)
  pub props : HasValues seg.props
  pub stamps : IsTrue (are_stamps b seg.ins seg.dels)
  pub author : IsTrue (is_author b seg.ins seg.by)

abbrev pub is_run : Bounds → RunRec → Bool
is_run b run = nat_le 1 run.count && are_stamps b run.ins run.dels

-- the units are at most 2^52
pub record AreRuns (b : Bounds) (runs : List RunRec) : Type 0 where
  pub each : IsTrue (list_all (is_run b) runs)
  pub units : IsTrue (nat_le (unit_count runs) (2 ^ 52))

-- an interval on so many elements
abbrev pub IsInterval : ℕ → IntervalRec → Type 0
IsInterval n i = IsTrue (are_shown_ends n i.ends) × HasValues i.props

abbrev pub is_interval_before : IntervalRec → IntervalRec → Bool
is_interval_before i j = is_name_before i.label i.id j.label j.id

-- a cell of so many rows and columns
abbrev pub IsCell : ℕ → ℕ → CellRec → Type 0
IsCell rows cols c = IsTrue (nat_lt c.row rows && nat_lt c.col cols) × IsValue c.value

abbrev pub is_cell_before : CellRec → CellRec → Bool
is_cell_before c d = is_place_before c.row c.col d.row d.col

-- ---- summaries

-- each value of a property or a cell is one
pub record HasOnlyValues (sum : SumDoc) : Type 0 where
  pub text : AllByRecursion (λ seg. HasValues seg.props) sum.text
  pub intervals : AllByRecursion (λ i. HasValues i.props) sum.intervals
  pub cells : AllByRecursion (λ c. IsValue c.value) sum.cells

pub record IsValidSummary (sum : SumDoc) : Type 0 where
  pub seq : IsTrue (is_count sum.seq)
  pub min : IsTrue (nat_le sum.min sum.seq)
  pub skipped : IsTrue (is_count sum.skipped)
  pub other : IsTrue (is_count sum.other)
  pub conns : IsTrue (are_distinct_names sum.conns)
  pub text : AllByRecursion (IsSegment (bounds sum)) sum.text
  pub elements : IsTrue (is_count (text_length sum.text))
  pub rows : AreRuns (bounds sum) sum.rows
  pub cols : AreRuns (bounds sum) sum.cols
  pub intervals : AllByRecursion (IsInterval (unremoved_text sum.text)) sum.intervals
  pub names : IsTrue (rises is_interval_before sum.intervals)
  pub cells : AllByRecursion (IsCell (unremoved_units sum.rows) (unremoved_units sum.cols)) sum.cells
  pub places : IsTrue (rises is_cell_before sum.cells)
