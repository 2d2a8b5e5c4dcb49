-- The lists of elements as the code reads them, with the forms of Narrow.
use Rattle.std.specs.Prelude.{◌++◌, List, map, Result, Ok}
use Rattle.serde_json.specs.Data.{Data}
use Rattle.ft_json.specs.declared.fields.Field.TheVariants.{Cols, Rows, Text}
use Rattle.ft_json.specs.Reading.{needed_field}
use Rattle.ft_op.specs.Reading.{◌>>=◌}
use Rattle.ft_sumdoc.specs.declared.summary.RunRec.{RunRec}
use Rattle.ft_sumdoc.specs.declared.summary.SumFault.{SumFault}
use Rattle.ft_sumdoc.specs.Counts.{Head, bounds_of}
use Rattle.ft_sumdoc.specs.Faults.{field_of_summary}
use Rattle.ft_sumdoc.specs.Runs.{kept_run}
use Rattle.ft_sumdoc.specs.Segments.{GivenSegment}
use Rattle.ft_sumdoc.specs.Stamps.{Bounds, GivenStamps, places_behind}
use Rattle.ft_sumdoc.specs.Summary.{Lists, run_stamps}
use Rattle.ft_sumdoc.specs.Values.{kept_each, kept_segment}
use Rattle.ft_sumdoc.specs.Narrow.{narrow_runs, narrow_text}

-- the stamps of segments
abbrev pub segments_stamps : List GivenSegment → List GivenStamps
segments_stamps segs = map (λ seg. seg.stamps) segs

-- the rows and the columns that an object gives, unless stamps of these segments, of the rows or of the columns are bad
unfoldable pub runs_beside : Bounds → List GivenSegment → Data → Result (List RunRec × List RunRec) SumFault
runs_beside b segs d = do
  rows ← field_of_summary (needed_field narrow_runs d Rows)
  cols ← field_of_summary (needed_field narrow_runs d Cols)
  places ← places_behind b 0 (segments_stamps segs ++ run_stamps rows ++ run_stamps cols)
  Ok (map kept_run rows, map kept_run cols)

-- the lists of elements that an object gives
unfoldable pub narrow_lists : Head → Data → Result Lists SumFault
narrow_lists h d = do
  parts ← field_of_summary (needed_field (narrow_text h.version) d Text)
  text ← kept_each kept_segment parts.segs
  runs ← runs_beside (bounds_of h) parts.segs d
  Ok (record { text = text; rows = runs.0; cols = runs.1; chunk_lengths = parts.lengths })
