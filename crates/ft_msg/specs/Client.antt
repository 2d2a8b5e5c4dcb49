-- The naive client: a document whose lists are plain lists with tombstones and pending marks, a link, a queue of
-- drafts, and the pending edits. Nothing is ever taken out of its lists but by a reconnection. This file has its local
-- steps.
use Rattle.std.specs.Prelude.{ℕ, ◌+◌, ◌-◌, cond, nat_le, List, [], ◌∷◌, ◌++◌, Option, Some, None, Result, Ok, Err, length, flat_map, fold, min, replicate}
use Rattle.ft_op.specs.declared.operations.BaseOp.{BaseOp}
use Rattle.ft_op.specs.declared.operations.BaseOp.TheVariants.{Insert, Remove, Annotate}
use Rattle.ft_op.specs.declared.operations.TextOp.{TextOp}
use Rattle.ft_op.specs.declared.operations.TextOp.TheVariants.{IntervalAdd, IntervalChange, IntervalDelete}
use Rattle.ft_op.specs.declared.operations.CellOp.{CellOp}
use Rattle.ft_op.specs.declared.operations.CellOp.TheVariants.{SpliceIn, SpliceOut, Set}
use Rattle.ft_op.specs.declared.operations.ChannelOp.{ChannelOp}
use Rattle.ft_msg.specs.declared.messages.Draft.{Draft}
use Rattle.ft_msg.specs.declared.messages.Body.TheVariants.{Nothing, Op}
use Rattle.ft_msg.specs.declared.views.Link.{Link}
use Rattle.ft_msg.specs.declared.views.Link.TheVariants.{Offline, Joining, Online}
use Rattle.ft_msg.specs.declared.faults.EditFault.{EditFault}
use Rattle.ft_msg.specs.declared.faults.EditFault.TheVariants.{IdInUse, NoSuchInterval, OutOfRange}
use Rattle.ft_msg.specs.declared.faults.LinkFault.{LinkFault}
use Rattle.ft_msg.specs.declared.faults.LinkFault.TheVariants.{AlreadyConnected, NotConnected}
use Rattle.ft_base.specs.Scan.{at, len}
use Rattle.ft_props.specs.Properties.{apply}
use Rattle.ft_props.specs.Element.{GridUnit, ListElement, id, with_pending_annotation, with_pending_removal, seen}
use Rattle.ft_props.specs.Steps.{after_local_mark, after_local_insertion}
use Rattle.ft_op.specs.Operation.{OnGrid, OnIntervals, OnText, SubOperation, segment_contents, sub_operations}
use Rattle.ft_op.specs.Intervals.{Interval, NamedElements, has_interval, no_elements}
use Rattle.ft_op.specs.Document.{Document, ends_of, given_ends_fit, elements_at_given_ends, rows_or_cols, with_rows_or_cols}
use Rattle.ft_op.specs.Stages.{Stage, shown_intervals}

-- as what an edit was sent: its connection, its client sequence number, its operation
pub record SentAs : Type 0 where
  pub conn : ℕ
  pub client_seq : ℕ
  pub op : ChannelOp

-- a pending edit: its stages, its reference number, and as what it was sent, if it was
pub record PendingEdit : Type 0 where
  pub stages : List Stage
  pub ref_seq : ℕ
  pub sent : Option SentAs

-- a client: its document, its link, all connections that it used, the last stage taken (0 at first), the next client
-- sequence number of its connection, the drafts that it hasn't sent yet, and its pending edits in order
pub record NaiveClient : Type 0 where
  pub doc : Document
  pub link : Link
  pub conns : List ℕ
  pub last_stage : ℕ
  pub next_client_seq : ℕ
  pub queue : List Draft
  pub pending : List PendingEdit

-- a new client over a document, offline
abbrev pub client_over : Document → NaiveClient
client_over doc = record { doc = doc; link = Offline; conns = []; last_stage = 0; next_client_seq = 1; queue = []; pending = [] }

-- all pending stages in order
abbrev pub stages_of : NaiveClient → List Stage
stages_of x = flat_map (λ e. e.stages) x.pending

-- the lesser of the last minimum and the least reference number of a pending edit: no perspective below it comes any
-- more
abbrev pub floor : NaiveClient → ℕ
floor x = fold (λ n e. min n e.ref_seq) x.doc.minimum x.pending

-- the document after a local sub-operation with the elements that it names, or why it can't be taken
abbrev pub EditResult : Type 0
EditResult = Result (Document × NamedElements) EditFault

-- the document, where p is at most the length n
abbrev pub if_in_range : ℕ → ℕ → Document → EditResult
if_in_range p n doc = cond (nat_le p n) (Ok (doc, no_elements)) (Err (OutOfRange n))

-- a sub-operation of the text at stage k, by the view of the stage before
abbrev pub local_text : Document → ℕ → BaseOp → EditResult
local_text doc k (Insert p seg props) =
    if_in_range p (len (seen (k - 1)) doc.text.items) (record doc { text = after_local_insertion k p (apply [] props) (segment_contents seg) doc.text })
local_text doc k (Remove p q) =
    if_in_range q (len (seen (k - 1)) doc.text.items) (record doc { text = after_local_mark k p q (with_pending_removal k) doc.text })
local_text doc k (Annotate p q changes) =
    if_in_range q (len (seen (k - 1)) doc.text.items) (record doc { text = after_local_mark k p q (with_pending_annotation k changes) doc.text })

-- the fault of an interval's id: in use for an add, not there for a change or a delete
abbrev pub id_fault : List Interval → TextOp → Option EditFault
id_fault is (IntervalAdd label id ends props) = cond (has_interval label id is) (Some IdInUse) None
id_fault is (IntervalChange label id ends props) = cond (has_interval label id is) None (Some NoSuchInterval)
id_fault is (IntervalDelete label id) = cond (has_interval label id is) None (Some NoSuchInterval)
id_fault is _ = None

-- the result, unless there is a fault
abbrev pub unless_fault : Option EditFault → EditResult → EditResult
unless_fault (Some fault) taken = Err fault
unless_fault None taken = taken

-- an interval operation at stage k, by the shown intervals; the id is tested before the range
abbrev pub local_interval : Document → List Stage → ℕ → TextOp → EditResult
local_interval doc stages k op =
    let n = len (seen (k - 1)) doc.text.items in
    unless_fault (id_fault (shown_intervals doc.text.items doc.intervals stages) op)
    (cond (given_ends_fit n (ends_of op)) (Ok (doc, elements_at_given_ends (seen (k - 1)) doc.text.items (ends_of op))) (Err (OutOfRange n)))

-- a cell write that names its two units; the row is tested before the column
abbrev pub local_set : Document → ℕ → Option ListElement → Option ListElement → EditResult
local_set doc k (Some row) (Some col) = Ok (doc, record { first = Some (id row); second = Some (id col) })
local_set doc k None col = Err (OutOfRange (len (seen (k - 1)) doc.rows.items))
local_set doc k (Some row) None = Err (OutOfRange (len (seen (k - 1)) doc.cols.items))

-- a splice or a cell write at stage k
abbrev pub local_grid : Document → ℕ → CellOp → EditResult
local_grid doc k (SpliceIn target p count) =
    let list = rows_or_cols target doc in
    if_in_range p (len (seen (k - 1)) list.items) (with_rows_or_cols target doc (after_local_insertion k p [] (replicate count GridUnit) list))
local_grid doc k (SpliceOut target p q) =
    let list = rows_or_cols target doc in
    if_in_range q (len (seen (k - 1)) list.items) (with_rows_or_cols target doc (after_local_mark k p q (with_pending_removal k) list))
local_grid doc k (Set i j value) = local_set doc k (at (seen (k - 1)) i doc.rows.items) (at (seen (k - 1)) j doc.cols.items)

-- any sub-operation at stage k, after the pending stages before it
abbrev pub local_sub_operation : Document → List Stage → ℕ → SubOperation → EditResult
local_sub_operation doc stages k (OnText op) = local_text doc k op
local_sub_operation doc stages k (OnIntervals op) = local_interval doc stages k op
local_sub_operation doc stages k (OnGrid op) = local_grid doc k op

-- the sub-operations of an edit in order, each at the next stage, with the stages that they make; the first that can't
-- be taken refuses all
abbrev pub local_sub_operations : Document → List Stage → ℕ → List SubOperation → Result (Document × List Stage) EditFault
local_sub_operations doc stages k [] = Ok (doc, [])
local_sub_operations doc stages k (sub_operation ∷ sub_operations) = elim (local_sub_operation doc stages k sub_operation) [
  | Err fault ↦ Err fault
  | Ok taken ↦
      let here : Stage = record { stage = k; sub_operation = sub_operation; names = taken.1 } in
      elim (local_sub_operations taken.0 (stages ++ (here ∷ [])) (k + 1) sub_operations) [ Err fault ↦ Err fault | Ok rest ↦ Ok (rest.0, here ∷ rest.1) ]
]

-- as what an edit is sent: an online client sends it, another doesn't
abbrev pub sent_as : Link → ℕ → ChannelOp → Option SentAs
sent_as (Online conn) n op = Some (record { conn = conn; client_seq = n; op = op })
sent_as _ n op = None

-- the client with the draft of an edit in its queue, if it is sent
abbrev pub with_draft : Option SentAs → ℕ → NaiveClient → NaiveClient
with_draft None ref_seq x = x
with_draft (Some sent) ref_seq x =
    record x { next_client_seq = x.next_client_seq + 1; queue = x.queue ++ (record { client_seq = sent.client_seq; ref_seq = ref_seq; body = Op sent.op } ∷ []) }

-- the client with an edit that made this document and these stages
abbrev pub after_edit : ChannelOp → Document → List Stage → NaiveClient → NaiveClient
after_edit op doc stages x =
    let sent = sent_as x.link x.next_client_seq op in
    with_draft sent x.doc.number (record x {
      doc = doc;
      last_stage = x.last_stage + length stages;
      pending = x.pending ++ (record { stages = stages; ref_seq = x.doc.number; sent = sent } ∷ []);
    })

-- the client after an edit of its own, or why the edit is refused
abbrev pub local_edit : NaiveClient → ChannelOp → Result NaiveClient EditFault
local_edit x op = elim (local_sub_operations x.doc (stages_of x) (x.last_stage + 1) (sub_operations op)) [
  | Err fault ↦ Err fault
  | Ok taken ↦ Ok (after_edit op taken.0 taken.1 x)
]

-- the client joining under a new connection, or AlreadyConnected where it isn't offline
abbrev pub connect : NaiveClient → ℕ → Result NaiveClient LinkFault
connect x conn = elim x.link [
  | Offline ↦ Ok (record x { link = Joining conn; conns = x.conns ++ (conn ∷ []); next_client_seq = 1 })
  | _ ↦ Err AlreadyConnected
]

-- the client offline with the drafts gone that it hasn't sent, or NotConnected where it is offline
abbrev pub drop_link : NaiveClient → Result NaiveClient LinkFault
drop_link x = elim x.link [ Offline ↦ Err NotConnected | _ ↦ Ok (record x { link = Offline; queue = [] }) ]

-- the client with a noop in its queue, or NotConnected where it isn't online
abbrev pub noop : NaiveClient → Result NaiveClient LinkFault
noop x = elim x.link [
  | Online conn ↦ Ok (record x { next_client_seq = x.next_client_seq + 1; queue = x.queue ++ (record { client_seq = x.next_client_seq; ref_seq = x.doc.number; body = Nothing } ∷ []) })
  | _ ↦ Err NotConnected
]
