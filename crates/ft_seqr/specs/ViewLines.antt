-- The lines of a view, each without its LF.
use Rattle.std.specs.Prelude.{ℕ, ◌==◌, ◌&&◌, List, [], ◌∷◌, ◌++◌, codes, decimal, encode_utf8_all, map, if◌then◌else◌}
use Rattle.std.specs.Fmt.{signed_decimal}
use Rattle.std.specs.List.{flat_map}
use Rattle.json.specs.Print.{quoted}
use Rattle.ft_props.specs.Properties.{Characters, PropertyList, ValueBytes}
use Rattle.ft_sumdoc.specs.declared.summary.CellRec.{CellRec}
use Rattle.ft_sumdoc.specs.declared.summary.IntervalRec.{IntervalRec}
use Rattle.ft_msg.specs.declared.views.Numbers.{Numbers}
use Rattle.ft_msg.specs.declared.views.Run.{Run}
use Rattle.ft_msg.specs.declared.views.Spot.{Spot}
use Rattle.ft_msg.specs.Content.{ViewContent}

-- the characters as a JSON string
abbrev pub json_string : Characters → List ℕ
json_string text = encode_utf8_all (quoted text)

-- a key with its value
abbrev pub member_text : Characters × ValueBytes → List ℕ
member_text (key, value) = json_string key ++ (codes ":" ++ value)

-- the members behind the first one, each behind a comma
abbrev pub later_members : PropertyList → List ℕ
later_members props = flat_map (λ p. codes "," ++ member_text p) props

-- properties as a JSON object
unfoldable pub object_text : PropertyList → List ℕ
object_text [] = codes "{}"
object_text (p ∷ props) = codes "{" ++ (member_text p ++ (later_members props ++ codes "}"))

-- the line of the text
abbrev pub text_line : Characters → List ℕ
text_line text = codes "text " ++ json_string text

-- the line of a marker: its place and its reference type
abbrev pub marker_line : Spot → List ℕ
marker_line m = codes "marker " ++ (decimal m.pos ++ (codes " " ++ decimal m.ref_type))

-- the line of a run of properties: from where up to before where
abbrev pub run_line : Run → List ℕ
run_line run = codes "props " ++ (decimal run.start ++ (codes " " ++ (decimal run.end ++ (codes " " ++ object_text run.props))))

-- the line of an interval up to its ends: its label and id
abbrev pub interval_name : IntervalRec → List ℕ
interval_name i = codes "interval " ++ (json_string i.label ++ (codes " " ++ json_string i.id))

-- the line of an interval: its label and id, its ends, its properties
abbrev pub interval_line : IntervalRec → List ℕ
interval_line i =
    interval_name i ++ (codes " " ++ (signed_decimal i.ends.start ++ (codes " " ++ (signed_decimal i.ends.end ++ (codes " " ++ object_text i.props)))))

-- the line of the counts of rows and columns, which an empty table hasn't
abbrev pub table_lines : ℕ → ℕ → List (List ℕ)
table_lines rows cols =
    if rows == 0 && cols == 0 then [] else (codes "rows " ++ (decimal rows ++ (codes " cols " ++ decimal cols))) ∷ []

-- the line of a cell: its row, its column, its value
abbrev pub cell_line : CellRec → List ℕ
cell_line cell = codes "cell " ++ (decimal cell.row ++ (codes " " ++ (decimal cell.col ++ (codes " " ++ cell.value))))

-- the lines of what is shown
unfoldable pub content_lines : ViewContent → List (List ℕ)
content_lines v =
    text_line v.text ∷ (map marker_line v.markers ++ (map run_line v.runs ++ (map interval_line v.intervals ++ (table_lines v.rows v.cols ++ map cell_line v.cells))))

-- the numbers of a view
abbrev pub numbers_line : Numbers → List ℕ
numbers_line n = codes "seq " ++ (decimal n.seq ++ (codes " min " ++ decimal n.min))
