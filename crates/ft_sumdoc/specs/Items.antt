-- What the items of the reader stand for: what the forms of the grammar give.
use Rattle.std.specs.Prelude.{[], map, chars, Option, Some, None, String}
use denote.Ref.{Bor}
use Rattle.std.specs.declared.alloc.Global.{Global}
use Rattle.serde_json.specs.View.{view}
use Rattle.std.specs.BTreeMap.{BTreeMap}
use Rattle.serde_json.specs.declared.value.Value.{Value}
use Rattle.ft_json.specs.Objects.{entry_pairs}
use Rattle.ft_sumdoc.specs.declared.items.BodyItem.{BodyItem}
use Rattle.ft_sumdoc.specs.declared.items.BodyItem.TheVariants.{Letters, Sign}
use Rattle.ft_sumdoc.specs.declared.items.CellItem.{CellItem}
use Rattle.ft_sumdoc.specs.declared.items.HeadItem.{HeadItem}
use Rattle.ft_sumdoc.specs.declared.items.IntervalItem.{IntervalItem}
use Rattle.ft_sumdoc.specs.declared.items.Limits.{Limits}
use Rattle.ft_sumdoc.specs.declared.items.ListItem.{ListItem}
use Rattle.ft_sumdoc.specs.declared.items.RunItem.{RunItem}
use Rattle.ft_sumdoc.specs.declared.items.SegItem.{SegItem}
use Rattle.ft_sumdoc.specs.declared.items.StampItem.{StampItem}
use Rattle.ft_sumdoc.specs.declared.items.TextItem.{TextItem}
use Rattle.ft_sumdoc.specs.declared.summary.Seg.{Seg}
use Rattle.ft_sumdoc.specs.declared.summary.Seg.TheVariants.{Chars, Marker}
use Rattle.ft_sumdoc.specs.Cells.{GivenCell}
use Rattle.ft_sumdoc.specs.Counts.{Head}
use Rattle.ft_sumdoc.specs.Forms.{GivenProps}
use Rattle.ft_sumdoc.specs.Intervals.{GivenInterval}
use Rattle.ft_sumdoc.specs.Runs.{GivenRun}
use Rattle.ft_sumdoc.specs.Segments.{GivenSegment}
use Rattle.ft_sumdoc.specs.Stamps.{Bounds, GivenStamps}
use Rattle.ft_sumdoc.specs.Summary.{Lists}
use Rattle.ft_sumdoc.specs.Narrow.{TextParts}

-- what stands before the lists
abbrev pub head_of : HeadItem → Head
head_of h = record { version = h.version; seq = h.seq; min = h.min; skipped = h.skipped; other = h.other; conns = h.conns }

-- what stamps are tested with
abbrev pub bounds_in : Limits → Bounds
bounds_in l = record { min = l.min; seq = l.seq; conns = l.conns }

-- the stamps of a segment or a run
abbrev pub stamps_of : StampItem → GivenStamps
stamps_of s = record { author = s.author; insertion = s.insertion; removals = s.removals }

-- what a segment holds
abbrev pub body_of : BodyItem → Seg
body_of (Letters text) = Chars (chars text.now)
body_of (Sign ref_type) = Marker ref_type

-- the entries of an object, none where there is none
abbrev pub given_pairs : Option (Bor (BTreeMap (String Global) Value)) → GivenProps
given_pairs None = []
given_pairs (Some m) = entry_pairs m.now.entries

-- a segment
abbrev pub segment_of : SegItem → GivenSegment
segment_of s = record { body = body_of s.body; props = given_pairs s.props; stamps = stamps_of s.stamps }

-- the segments of a text, and the lengths of its chunks
abbrev pub text_of : TextItem → TextParts
text_of t = record { segs = map segment_of t.segs.items; lengths = t.lengths.items }

-- a run
abbrev pub run_of : RunItem → GivenRun
run_of r = record { units = r.units; stamps = stamps_of r.stamps }

-- an interval
abbrev pub interval_of : IntervalItem → GivenInterval
interval_of i = record { label = chars i.label.now; id = chars i.id.now; ends = i.ends; props = entry_pairs i.props.now.entries }

-- a cell
abbrev pub cell_of : CellItem → GivenCell
cell_of c = record { row = c.row; col = c.col; value = view c.value.now }

-- the lists of elements
abbrev pub lists_of : ListItem → Lists
lists_of l = record { text = l.text; rows = l.rows; cols = l.cols; chunk_lengths = l.lengths.items }
