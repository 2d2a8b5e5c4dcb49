-- Documents and clients with places for names: an end and a cell go by their elements' places in the whole lists.
-- Replicas that number their elements otherwise, or not at all, are compared so.
use Rattle.std.specs.Prelude.{ℕ, true, List, [], Option, map, option_map}
use Rattle.ft_sumdoc.specs.declared.summary.CellRec.{CellRec}
use Rattle.ft_msg.specs.declared.messages.Draft.{Draft}
use Rattle.ft_msg.specs.declared.views.Link.{Link}
use Rattle.ft_base.specs.Scan.{rank}
use Rattle.ft_props.specs.Properties.{Characters, PropertyList}
use Rattle.ft_props.specs.Element.{ListElement, ElementId, NamelessElement, has_id, nameless}
use Rattle.ft_op.specs.Operation.{OnGrid, SubOperation}
use Rattle.ft_op.specs.Intervals.{Interval, NamedElements}
use Rattle.ft_op.specs.Document.{Document}
use Rattle.ft_op.specs.Stages.{Stage}
use Rattle.ft_msg.specs.Client.{NaiveClient, PendingEdit, SentAs}
use Rattle.ft_msg.specs.Content.{all_cells}

-- the place of a named element in the whole list
abbrev pub place_in_list : List ListElement → Option ElementId → Option ℕ
place_in_list xs x = option_map (λ i. rank (has_id i) (λ _. true) xs) x

-- two places, for two named elements
pub record PlacePair : Type 0 where
  pub first : Option ℕ
  pub second : Option ℕ

-- an interval with places
pub record IndexedInterval : Type 0 where
  pub label : Characters
  pub id : Characters
  pub ends : PlacePair
  pub props : PropertyList

-- a document with places, its elements without names
pub record IndexedDocument : Type 0 where
  pub text : List NamelessElement
  pub rows : List NamelessElement
  pub cols : List NamelessElement
  pub intervals : List IndexedInterval
  pub cells : List CellRec
  pub skipped : ℕ
  pub other : ℕ
  pub number : ℕ
  pub minimum : ℕ

-- an interval with the places of its ends
abbrev pub indexed_interval : List ListElement → Interval → IndexedInterval
indexed_interval xs i = record { label = i.label; id = i.id; ends = record { first = place_in_list xs i.start; second = place_in_list xs i.end }; props = i.props }

-- a document with places for names
abbrev pub indexed : Document → IndexedDocument
indexed doc = record {
  text = map nameless doc.text.items;
  rows = map nameless doc.rows.items;
  cols = map nameless doc.cols.items;
  intervals = map (indexed_interval doc.text.items) doc.intervals;
  cells = all_cells doc.cells [] doc.cols.items 0 doc.rows.items;
  skipped = doc.skipped;
  other = doc.other;
  number = doc.number;
  minimum = doc.minimum;
}

-- a pending stage with places
pub record IndexedStage : Type 0 where
  pub stage : ℕ
  pub sub_operation : SubOperation
  pub places : PlacePair

-- a pending edit with places
pub record IndexedEdit : Type 0 where
  pub stages : List IndexedStage
  pub ref_seq : ℕ
  pub sent : Option SentAs

-- a client with places
pub record IndexedClient : Type 0 where
  pub doc : IndexedDocument
  pub link : Link
  pub conns : List ℕ
  pub last_stage : ℕ
  pub next_client_seq : ℕ
  pub queue : List Draft
  pub pending : List IndexedEdit

-- the places of the elements that a sub-operation names: in the rows and the columns for a cell write, in the text for
-- an interval
abbrev pub places_of : Document → SubOperation → NamedElements → PlacePair
places_of doc (OnGrid op) names = record { first = place_in_list doc.rows.items names.first; second = place_in_list doc.cols.items names.second }
places_of doc _ names = record { first = place_in_list doc.text.items names.first; second = place_in_list doc.text.items names.second }

-- a stage with places for names
abbrev pub indexed_stage : Document → Stage → IndexedStage
indexed_stage doc t = record { stage = t.stage; sub_operation = t.sub_operation; places = places_of doc t.sub_operation t.names }

-- an edit with places for names
abbrev pub indexed_edit : Document → PendingEdit → IndexedEdit
indexed_edit doc e = record { stages = map (indexed_stage doc) e.stages; ref_seq = e.ref_seq; sent = e.sent }

-- a client with places for names, as a replica shows itself
abbrev pub indexed_client : NaiveClient → IndexedClient
indexed_client x = record {
  doc = indexed x.doc;
  link = x.link;
  conns = x.conns;
  last_stage = x.last_stage;
  next_client_seq = x.next_client_seq;
  queue = x.queue;
  pending = map (indexed_edit x.doc) x.pending;
}
