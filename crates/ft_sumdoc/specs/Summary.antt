-- Which summary a text is, or its first fault in the order in which its fields are tested.
use Rattle.std.specs.Prelude.{ℕ, ◌+◌, nat_eq, nat_lt, List, [], ◌∷◌, ◌++◌, map, flat_map, Result, Ok, Err, if◌then◌else◌}
use Rattle.serde_json.specs.Data.{Data}
use Rattle.ft_json.specs.declared.fields.Field.TheVariants.{Cells, Cols, Count, Intervals, Rows, Summary, Text}
use Rattle.ft_json.specs.Reading.{count_field, needed_field, read_line}
use Rattle.ft_op.specs.Reading.{◌>>=◌, is_object, read_each, with_fault}
use Rattle.ft_sumdoc.specs.declared.summary.RunRec.{RunRec}
use Rattle.ft_sumdoc.specs.declared.summary.SegRec.{SegRec}
use Rattle.ft_sumdoc.specs.declared.summary.SumCause.TheVariants.{WrongKind}
use Rattle.ft_sumdoc.specs.declared.summary.SumDoc.{SumDoc}
use Rattle.ft_sumdoc.specs.declared.summary.SumFault.{SumFault}
use Rattle.ft_sumdoc.specs.declared.summary.SumFault.TheVariants.{BadCount, Malformed}
use Rattle.ft_sumdoc.specs.Cells.{cells_form}
use Rattle.ft_sumdoc.specs.Chunks.{chunk_length}
use Rattle.ft_sumdoc.specs.Counts.{Head, bounds_of, head}
use Rattle.ft_sumdoc.specs.Faults.{fault_of_json, field_of_summary}
use Rattle.ft_sumdoc.specs.Intervals.{intervals_form}
use Rattle.ft_sumdoc.specs.Runs.{GivenRun, kept_run, runs_form, unremoved_units}
use Rattle.ft_sumdoc.specs.Segments.{GivenSegment, body_length, text_form, text_length, unremoved_text}
use Rattle.ft_sumdoc.specs.Stamps.{Bounds, GivenStamps, places_behind}
use Rattle.ft_sumdoc.specs.Values.{kept_cell, kept_each, kept_interval, kept_segment}

-- ---- text, rows and columns

-- the lists of elements, and how many elements each chunk of the text has
pub record Lists : Type 0 where
  pub text : List SegRec
  pub rows : List RunRec
  pub cols : List RunRec
  pub chunk_lengths : List ℕ

-- how many elements a chunk has
abbrev pub given_length : List GivenSegment → ℕ
given_length [] = 0
given_length (seg ∷ segs) = body_length seg.body + given_length segs

-- the stamps of the segments of all chunks, and of runs, in order
abbrev pub segment_stamps : List (List GivenSegment) → List GivenStamps
segment_stamps chunks = flat_map (map (λ seg. seg.stamps)) chunks

abbrev pub run_stamps : List GivenRun → List GivenStamps
run_stamps runs = map (λ run. run.stamps) runs

-- the lists of these segments, rows and columns, unless stamps are bad
abbrev pub lists_with : Bounds → List (List GivenSegment) → List SegRec → List GivenRun → List GivenRun → Result Lists SumFault
lists_with b chunks text rows cols = do
  places ← places_behind b 0 (segment_stamps chunks ++ run_stamps rows ++ run_stamps cols)
  Ok (record { text = text; rows = map kept_run rows; cols = map kept_run cols; chunk_lengths = map given_length chunks })

-- the lists of elements that an object gives
unfoldable pub lists : Head → Data → Result Lists SumFault
lists h d = do
  chunks ← field_of_summary (needed_field (text_form h.version) d Text)
  text ← kept_each kept_segment (flat_map (λ chunk. chunk) chunks)
  rows ← field_of_summary (needed_field runs_form d Rows)
  cols ← field_of_summary (needed_field runs_form d Cols)
  lists_with (bounds_of h) chunks text rows cols

-- ---- counts of elements

-- the count of elements, if it is what was found
abbrev pub agreed_count : ℕ → ℕ → Result ℕ SumFault
agreed_count said found = if nat_eq said found then Ok said else Err (BadCount said found)

-- the length of a chunk, if it isn't too great
abbrev pub within_chunk : ℕ → Result ℕ SumFault
within_chunk n = if nat_lt chunk_length n then Err (BadCount chunk_length n) else Ok n

-- the count of elements that an object gives beside these lists; then no chunk is too long
unfoldable pub element_count : Lists → Data → Result ℕ SumFault
element_count ls d = do
  said ← field_of_summary (count_field d Count)
  found ← agreed_count said (text_length ls.text)
  lengths ← read_each within_chunk ls.chunk_lengths
  Ok found

-- ---- summaries

-- the summary that an object is
unfoldable pub summary_of_object : Data → Result SumDoc SumFault
summary_of_object d = do
  h ← head d
  ls ← lists h d
  elements ← element_count ls d
  given_intervals ← field_of_summary (needed_field (intervals_form (unremoved_text ls.text)) d Intervals)
  intervals ← kept_each kept_interval given_intervals
  given_cells ← field_of_summary (needed_field (cells_form (unremoved_units ls.rows) (unremoved_units ls.cols)) d Cells)
  cells ← kept_each kept_cell given_cells
  Ok (record { seq = h.seq; min = h.min; skipped = h.skipped; other = h.other; conns = h.conns; text = ls.text; rows = ls.rows; cols = ls.cols; intervals = intervals; cells = cells })

-- the summary that a text is
unfoldable pub summary : List ℕ → Result SumDoc SumFault
summary bytes = do
  d ← with_fault fault_of_json (read_line bytes)
  if is_object d then summary_of_object d else Err (Malformed (WrongKind Summary))
