-- Names for elements that have none, as a replica shows them: sequenced ones by their places, those of a pending stage
-- by their order in it.
use Rattle.std.specs.Prelude.{◌≡◌, ℕ, true, List, [], ◌∷◌, ◌++◌, Option, Some, None, length, map, filter, option_map}
use Rattle.ft_base.specs.declared.stamps.Stamp.{Stamp}
use Rattle.ft_base.specs.declared.stamps.Stamp.TheVariants.{Acked, Local}
use Rattle.ft_sumdoc.specs.declared.summary.CellRec.{CellRec}
use Rattle.ft_base.specs.Scan.{at, len}
use Rattle.ft_base.specs.Visibility.{is_acked, is_of_stage}
use Rattle.ft_props.specs.Properties.{ValueBytes}
use Rattle.ft_props.specs.Element.{ElementId, ListElement, NamelessElement, id, nameless}
use Rattle.ft_props.specs.Steps.{Sequence}
use Rattle.ft_op.specs.Operation.{OnGrid, SubOperation}
use Rattle.ft_op.specs.Intervals.{Interval, NamedElements}
use Rattle.ft_op.specs.Cells.{Cell}
use Rattle.ft_op.specs.Document.{Document}
use Rattle.ft_op.specs.Stages.{Stage}
use Rattle.ft_msg.specs.Client.{NaiveClient, PendingEdit}
use Rattle.ft_msg.specs.Indexed.{IndexedClient, IndexedDocument, IndexedEdit, IndexedInterval, IndexedStage, PlacePair, indexed_client}
use Rattle.ft_laws_names.specs.WellNamed.{IsWellNamed, IsWellNumbered}

-- the number of an element with this insertion, where these stand before it
abbrev pub number_behind : List NamelessElement → Stamp → ℕ
number_behind before (Acked s c) = length before
number_behind before (Local k) = len (λ (d : NamelessElement). is_of_stage k d.stamps.ins) before

-- the stage of the pending removal among removals
abbrev pub pending_removal : List Stamp → Option ℕ
pending_removal [] = None
pending_removal (Acked s c ∷ dels) = pending_removal dels
pending_removal (Local k ∷ dels) = Some k

-- the element with a name, where these stand before it
abbrev pub named_element : List NamelessElement → NamelessElement → ListElement
named_element before e = record {
  nth = number_behind before e.stamps.ins;
  content = e.content;
  ins = e.stamps.ins;
  dels = filter is_acked e.stamps.dels;
  removal_stage = pending_removal e.stamps.dels;
  by = e.by;
  props = e.props;
  pending = e.pending;
}

-- elements with names
abbrev pub named_elements : List NamelessElement → List NamelessElement → List ListElement
named_elements before [] = []
named_elements before (e ∷ es) = named_element before e ∷ named_elements (e ∷ before) es

abbrev pub named_list : List NamelessElement → Sequence
named_list es = record { items = named_elements [] es; made = length es }

-- elements without names can be given names: they are well numbered, and the same but for the names
abbrev pub ListsCanBeNamed : Type 0
ListsCanBeNamed = (last : ℕ) (list : Sequence) → IsWellNumbered last list → IsWellNumbered last (named_list (map nameless list.items)) × (map nameless (named_list (map nameless list.items)).items ≡ map nameless list.items)

-- ---- clients

-- the name of the element at a place
abbrev pub name_at_place : List ListElement → ℕ → Option ElementId
name_at_place xs i = option_map id (at (λ _. true) i xs)

-- the end at a place, if it isn't detached
abbrev pub end_at : List ListElement → Option ℕ → Option ElementId
end_at xs None = None
end_at xs (Some i) = name_at_place xs i

-- an interval with names
abbrev pub named_interval : List ListElement → IndexedInterval → Interval
named_interval xs i = record { label = i.label; id = i.id; start = end_at xs i.ends.first; end = end_at xs i.ends.second; props = i.props }

-- the cell of two units, where both are there
abbrev pub named_cell : Option ElementId → Option ElementId → ValueBytes → List Cell
named_cell (Some row) (Some col) value = record { row = row; col = col; value = value } ∷ []
named_cell _ _ value = []

-- the cells on the units at their places
abbrev pub named_cells : List ListElement → List ListElement → List CellRec → List Cell
named_cells rows cols [] = []
named_cells rows cols (c ∷ cs) = named_cell (name_at_place rows c.row) (name_at_place cols c.col) c.value ++ named_cells rows cols cs

-- a document with names
abbrev pub named_document : IndexedDocument → Document
named_document d = record {
  text = named_list d.text;
  rows = named_list d.rows;
  cols = named_list d.cols;
  intervals = map (named_interval (named_elements [] d.text)) d.intervals;
  cells = named_cells (named_elements [] d.rows) (named_elements [] d.cols) d.cells;
  skipped = d.skipped;
  other = d.other;
  number = d.number;
  minimum = d.minimum;
}

-- the elements that a sub-operation names, by their places
abbrev pub names_at : Document → SubOperation → PlacePair → NamedElements
names_at doc (OnGrid op) places = record { first = end_at doc.rows.items places.first; second = end_at doc.cols.items places.second }
names_at doc _ places = record { first = end_at doc.text.items places.first; second = end_at doc.text.items places.second }

-- a stage with names
abbrev pub named_stage : Document → IndexedStage → Stage
named_stage doc t = record { stage = t.stage; sub_operation = t.sub_operation; names = names_at doc t.sub_operation t.places }

-- an edit with names
abbrev pub named_edit : Document → IndexedEdit → PendingEdit
named_edit doc e = record { stages = map (named_stage doc) e.stages; ref_seq = e.ref_seq; sent = e.sent }

-- a client with names
abbrev pub named : IndexedClient → NaiveClient
named v = record {
  doc = named_document v.doc;
  link = v.link;
  conns = v.conns;
  last_stage = v.last_stage;
  next_client_seq = v.next_client_seq;
  queue = v.queue;
  pending = map (named_edit (named_document v.doc)) v.pending;
}

-- what a well named client shows can be given names: a well named client that shows it
abbrev pub ClientsCanBeNamed : Type 0
ClientsCanBeNamed = (x : NaiveClient) → IsWellNamed x → IsWellNamed (named (indexed_client x)) × (indexed_client (named (indexed_client x)) ≡ indexed_client x)
