-- The text of a change: a JSON object on one line, whose words are those of operations where these have such.
use Rattle.std.specs.Prelude.{ℕ, List, ◌++◌, codes, decimal, map}
use Rattle.std.specs.Fmt.{signed_decimal}
use Rattle.std.specs.List.{flat_map}
use Rattle.ft_io.specs.Lines.{with_lf}
use Rattle.ft_op.specs.declared.operations.Seg.{Seg}
use Rattle.ft_op.specs.declared.operations.Seg.TheVariants.{Chars, Marker}
use Rattle.ft_op.specs.declared.operations.Target.{Target}
use Rattle.ft_op.specs.declared.operations.Target.TheVariants.{Rows, Cols}
use Rattle.ft_sumdoc.specs.declared.summary.IntervalRec.{IntervalRec}
use Rattle.ft_props.specs.Properties.{Characters}
use Rattle.ft_seqr.specs.ViewLines.{json_string, object_text}
use Rattle.ft_changes.specs.declared.changes.ViewChange.{ViewChange}
use Rattle.ft_changes.specs.declared.changes.ViewChange.TheVariants.{Put, Take, Style, PutUnits, TakeUnits, SetCell, ClearCell, SetInterval, DropInterval}

-- a member behind others: its key, and its value as a text
abbrev pub member : List ℕ → List ℕ → List ℕ
member key value = codes ",\"" ++ (key ++ (codes "\":" ++ value))

-- a segment, as in an insertion without properties
abbrev pub segment_text : Seg → List ℕ
segment_text (Chars text) = json_string text
segment_text (Marker ref_type) = codes "{\"marker\":{\"refType\":" ++ (decimal ref_type ++ codes "}}")

-- rows or columns
abbrev pub target_word : Target → List ℕ
target_word Rows = codes "rows"
target_word Cols = codes "cols"

-- where so many elements go away, and where so many have other properties
abbrev pub range_members : ℕ → ℕ → List ℕ
range_members p n = member (codes "pos") (decimal p) ++ member (codes "count") (decimal n)

-- where so many rows or columns go in or away
abbrev pub units_members : Target → ℕ → ℕ → List ℕ
units_members target p n = member (codes "target") (codes "\"" ++ (target_word target ++ codes "\"")) ++ range_members p n

-- the place of a cell, and the text of its value
abbrev pub cell_members : ℕ → ℕ → List ℕ → List ℕ
cell_members i j value = member (codes "row") (decimal i) ++ (member (codes "col") (decimal j) ++ member (codes "value") value)

-- the label and the id of an interval
abbrev pub name_members : Characters → Characters → List ℕ
name_members label id = member (codes "label") (json_string label) ++ member (codes "id") (json_string id)

-- its ends and its properties
abbrev pub ends_members : IntervalRec → List ℕ
ends_members i =
    member (codes "start") (signed_decimal i.ends.start) ++ (member (codes "end") (signed_decimal i.ends.end) ++ member (codes "props") (object_text i.props))

-- the word of a change
abbrev pub change_word : ViewChange → List ℕ
change_word (Put p seg props) = codes "put"
change_word (Take p n) = codes "take"
change_word (Style p n props) = codes "style"
change_word (PutUnits target p n) = codes "putUnits"
change_word (TakeUnits target p n) = codes "takeUnits"
change_word (SetCell i j value) = codes "cell"
change_word (ClearCell i j) = codes "cell"
change_word (SetInterval interval) = codes "interval"
change_word (DropInterval label id) = codes "gone"

-- its parts; a cell without a value has null, which no cell holds
abbrev pub change_members : ViewChange → List ℕ
change_members (Put p seg props) =
    member (codes "pos") (decimal p) ++ (member (codes "seg") (segment_text seg) ++ member (codes "props") (object_text props))
change_members (Take p n) = range_members p n
change_members (Style p n props) = range_members p n ++ member (codes "props") (object_text props)
change_members (PutUnits target p n) = units_members target p n
change_members (TakeUnits target p n) = units_members target p n
change_members (SetCell i j value) = cell_members i j value
change_members (ClearCell i j) = cell_members i j (codes "null")
change_members (SetInterval interval) = name_members interval.label interval.id ++ ends_members interval
change_members (DropInterval label id) = name_members label id

-- what the text of a change with this word begins with
abbrev pub change_head : List ℕ → List ℕ
change_head word = codes "{\"change\":\"" ++ (word ++ codes "\"")

-- the text of a change
abbrev pub change_text : ViewChange → List ℕ
change_text c = change_head (change_word c) ++ (change_members c ++ codes "}")

-- those of changes, each on a line that ends with LF
abbrev pub changes_text : List ViewChange → List ℕ
changes_text changes = flat_map with_lf (map change_text changes)
