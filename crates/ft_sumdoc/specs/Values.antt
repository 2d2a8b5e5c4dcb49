-- What is kept of segments, intervals and cells: each value in turn as its text, or the first fault.
use Rattle.std.specs.Prelude.{List, Result, Ok}
use Rattle.ft_json.specs.Canonical.{canonical}
use Rattle.ft_json.specs.declared.faults.JsonFault.{JsonFault}
use Rattle.ft_props.specs.Properties.{PropertyList}
use Rattle.ft_op.specs.Reading.{◌>>=◌, read_each, read_named, with_fault}
use Rattle.ft_sumdoc.specs.declared.summary.CellRec.{CellRec}
use Rattle.ft_sumdoc.specs.declared.summary.IntervalRec.{IntervalRec}
use Rattle.ft_sumdoc.specs.declared.summary.SegRec.{SegRec}
use Rattle.ft_sumdoc.specs.declared.summary.SumFault.{SumFault}
use Rattle.ft_sumdoc.specs.Cells.{GivenCell}
use Rattle.ft_sumdoc.specs.Faults.{fault_of_json}
use Rattle.ft_sumdoc.specs.Forms.{GivenProps}
use Rattle.ft_sumdoc.specs.Intervals.{GivenInterval}
use Rattle.ft_sumdoc.specs.Segments.{GivenSegment}
use Rattle.ft_sumdoc.specs.Stamps.{given_author, given_insertion}

-- the properties, which rise by their names in a value that was read
abbrev pub kept_props : GivenProps → Result PropertyList JsonFault
kept_props ps = read_each (read_named (λ _ d. canonical d)) ps

abbrev pub kept_segment : GivenSegment → Result SegRec JsonFault
kept_segment seg = do
  props ← kept_props seg.props
  Ok (record { body = seg.body; props = props; by = given_author seg.stamps; ins = given_insertion seg.stamps; dels = seg.stamps.removals })

abbrev pub kept_interval : GivenInterval → Result IntervalRec JsonFault
kept_interval i = do
  props ← kept_props i.props
  Ok (record { label = i.label; id = i.id; ends = i.ends; props = props })

abbrev pub kept_cell : GivenCell → Result CellRec JsonFault
kept_cell c = do
  value ← canonical c.value
  Ok (record { row = c.row; col = c.col; value = value })

-- what is kept of each, or the first fault as one of a summary
abbrev pub kept_each : {A B : Type 0} → (A → Result B JsonFault) → List A → Result (List B) SumFault
kept_each keeps xs = with_fault fault_of_json (read_each keeps xs)
