-- What a replica answers that stands for a client, and what it stands for afterwards. A replica is any implementation of a
-- client, with trees or with plain lists. It stops at the first OutOfMemory in a call that changes it: nothing is said of
-- its document from then on, and every later change is answered by that stop.
use Rattle.std.specs.Prelude.{◌≡◌, ℕ, ◌+◌, true, not, ⊤, Option, Some, None, Result, Ok, Err, List, [], fold, length, max, min}
use Rattle.std.specs.List.{list_all}
use Rattle.ft_sumdoc.specs.declared.summary.SumDoc.{SumDoc}
use Rattle.ft_msg.specs.declared.faults.EditFault.{EditFault}
use Rattle.ft_msg.specs.declared.faults.EditFault.TheVariants as edit
use Rattle.ft_msg.specs.declared.faults.ProcessFault.{ProcessFault}
use Rattle.ft_msg.specs.declared.faults.ProcessFault.TheVariants as processing
use Rattle.ft_msg.specs.declared.faults.LinkFault.{LinkFault}
use Rattle.ft_msg.specs.declared.faults.LinkFault.TheVariants as link
use Rattle.ft_msg.specs.declared.faults.ViewFault.{ViewFault}
use Rattle.ft_msg.specs.declared.faults.ViewFault.TheVariants as viewing
use Rattle.ft_msg.specs.declared.faults.SummaryFault.{SummaryFault}
use Rattle.ft_msg.specs.declared.faults.SummaryFault.TheVariants as summing
use Rattle.ft_msg.specs.declared.messages.Draft.{Draft}
use Rattle.ft_msg.specs.declared.views.Numbers.{Numbers}
use Rattle.ft_msg.specs.declared.views.View.{View}
use Rattle.ft_base.specs.Scan.{len}
use Rattle.ft_props.specs.Properties.{Characters}
use Rattle.ft_props.specs.Element.{is_pending}
use Rattle.ft_props.specs.Compaction.{has_collectable_removal}
use Rattle.ft_props.specs.Steps.{Sequence}
use Rattle.ft_op.specs.Document.{Document}
use Rattle.ft_msg.specs.Indexed.{IndexedClient}
use Rattle.ft_msg.specs.Compacted.{StandsFor}
use Rattle.ft_msg.specs.Client.{NaiveClient, client_over}
use Rattle.ft_msg.specs.Content.{ViewContent}
use Rattle.ft_msg.specs.Reached.{IsReached}
use Rattle.ft_msg.specs.SummaryOf.{Summarizes}
use Rattle.ft_sumdoc.specs.Valid.{IsValidSummary}

-- how many elements were ever in each list
pub record HeldCounts : Type 0 where
  pub text : ℕ
  pub rows : ℕ
  pub cols : ℕ

-- a replica as contracts see it: the client that it keeps, how many elements it ever held, the greatest number of a connection
-- in what it processed or was made from, and the number at which it stopped, if it did
pub record ReplicaState : Type 0 where
  pub client : IndexedClient
  pub held : HeldCounts
  pub origin : ℕ
  pub stop : Option ℕ

-- how many elements were ever in a list: those that were sequenced and those that are pending
abbrev pub count_held : Sequence → ℕ
count_held list = list.made + len is_pending list.items

-- how many were ever in the lists of a document
abbrev pub held_in : Document → HeldCounts
held_in doc = record { text = count_held doc.text; rows = count_held doc.rows; cols = count_held doc.cols }

-- the counts of a replica rise as those of its client do
pub record RiseAlike (old new before after : HeldCounts) : Type 0 where
  pub text : new.text + before.text ≡ old.text + after.text
  pub rows : new.rows + before.rows ≡ old.rows + after.rows
  pub cols : new.cols + before.cols ≡ old.cols + after.cols

-- what an error says of a replica: that it has no memory, that it stopped before, or that its client refuses
pub data FaultKind : Type 0 where
  WantOfMemory : FaultKind
  StoppedBefore : ℕ → FaultKind
  Refusal : FaultKind

-- what the error of an edit says
abbrev pub edit_fault_kind : EditFault → FaultKind
edit_fault_kind edit.OutOfMemory = WantOfMemory
edit_fault_kind (edit.Stopped seq) = StoppedBefore seq
edit_fault_kind _ = Refusal

-- what the error of a message says
abbrev pub process_fault_kind : ProcessFault → FaultKind
process_fault_kind processing.OutOfMemory = WantOfMemory
process_fault_kind (processing.Stopped seq) = StoppedBefore seq
process_fault_kind _ = Refusal

-- what the error of a change of the link says
abbrev pub link_fault_kind : LinkFault → FaultKind
link_fault_kind link.OutOfMemory = WantOfMemory
link_fault_kind (link.Stopped seq) = StoppedBefore seq
link_fault_kind _ = Refusal

-- what the error of a view or of a compaction says
abbrev pub view_fault_kind : ViewFault → FaultKind
view_fault_kind viewing.OutOfMemory = WantOfMemory
view_fault_kind (viewing.Stopped seq) = StoppedBefore seq

-- ---- steps

-- the replica runs and stands for the client
pub record RunsFor (replica : ReplicaState) (x : NaiveClient) : Type 0 where
  pub running : replica.stop ≡ None
  pub client : StandsFor replica.client x

-- the replica stopped at its number, and kept its queue, its link and its numbers
pub record StopsAfter (old new : ReplicaState) : Type 0 where
  pub stop : new.stop ≡ Some old.client.doc.number
  pub number : new.client.doc.number ≡ old.client.doc.number
  pub minimum : new.client.doc.minimum ≡ old.client.doc.minimum
  pub skipped : new.client.doc.skipped ≡ old.client.doc.skipped
  pub other : new.client.doc.other ≡ old.client.doc.other
  pub pending : length new.client.pending ≡ length old.client.pending
  pub held : new.held ≡ old.held
  pub link : new.client.link ≡ old.client.link
  pub conns : new.client.conns ≡ old.client.conns
  pub queue : new.client.queue ≡ old.client.queue

-- the replica goes on, and saw a message of that sender, or none where it is 0
pub record GoesOn (sender : ℕ) (old new : ReplicaState) : Type 0 where
  pub ran : old.stop ≡ None
  pub runs : new.stop ≡ None
  pub origin : new.origin ≡ max old.origin sender

-- what an error means for a replica
abbrev pub AnswersFault : ReplicaState → ReplicaState → FaultKind → Type 0
AnswersFault old new WantOfMemory = (old.stop ≡ None) × StopsAfter old new
AnswersFault old new (StoppedBefore seq) = (old.stop ≡ Some seq) × (new ≡ old)
AnswersFault old new Refusal = (old.stop ≡ None) × (new ≡ old)

-- what an answer means for a replica: it goes on; or it had stopped, and nothing changed; or it is refused, and nothing
-- changed; or it has no memory, and stops
abbrev pub AnswersState : {E : Type 0} → (E → FaultKind) → ℕ → ReplicaState → ReplicaState → Result (Unit {0}) E → Type 0
AnswersState kind sender old new (Ok _) = GoesOn sender old new
AnswersState kind sender old new (Err fault) = AnswersFault old new (kind fault)

-- the replica now stands for y, where it stood for x
pub record Follows (old new : ReplicaState) (x y : NaiveClient) : Type 0 where
  pub client : StandsFor new.client y
  pub held : RiseAlike old.held new.held (held_in x.doc) (held_in y.doc)

-- what an error means for a client, where it refuses with the same error
abbrev pub MeansRefusal : FaultKind → Type 0 → Type 0
MeansRefusal Refusal refused = refused
MeansRefusal _ refused = ⊤

-- what an answer means for a client x for which the replica stood: x takes the step, and then the replica stands for the
-- client after it; or x refuses it so
abbrev pub AnswersClient : {E : Type 0} → (E → FaultKind) → ReplicaState → ReplicaState → NaiveClient → Result NaiveClient E → Result (Unit {0}) E → Type 0
AnswersClient kind old new x step (Ok _) = (y : NaiveClient) × (step ≡ Ok y) × Follows old new x y
AnswersClient kind old new x step (Err fault) = MeansRefusal (kind fault) (step ≡ Err fault)

-- the answer of a replica to a step of each client for which it stands
pub record Answers {E : Type 0} (kind : E → FaultKind) (sender : ℕ) (step : NaiveClient → Result NaiveClient E) (old new : ReplicaState) (result : Result (Unit {0}) E) : Type 0 where
  pub state : AnswersState kind sender old new result
  pub client : (x : NaiveClient) → IsReached x → StandsFor old.client x → AnswersClient kind old new x (step x) result

-- while it runs, the replica stands for a client that steps made
abbrev pub StandsForSome : ReplicaState → Type 0
StandsForSome r = r.stop ≡ None → (x : NaiveClient) × IsReached x × StandsFor r.client x

-- ---- what changes no document

-- the numbers of a replica
abbrev pub numbers_of : ReplicaState → Numbers
numbers_of r = record {
  seq = r.client.doc.number;
  min = r.client.doc.minimum;
  pending = length r.client.pending;
  skipped = r.client.doc.skipped;
  other = r.client.doc.other;
  made = max r.held.text (max r.held.rows r.held.cols);
  link = r.client.link;
}

-- the replica with this queue
abbrev pub with_queue : List Draft → ReplicaState → ReplicaState
with_queue queue r = record r { client = record r.client { queue = queue } }

-- the floor of a replica
abbrev pub floor_of : IndexedClient → ℕ
floor_of c = fold (λ n e. min n e.ref_seq) c.doc.minimum c.pending

-- no element is kept that was removed at or below the floor
pub record IsFullyCompacted (c : IndexedClient) : Type 0 where
  pub text : list_all (λ e. not (has_collectable_removal (floor_of c) e.stamps.dels)) c.doc.text ≡ true
  pub rows : list_all (λ e. not (has_collectable_removal (floor_of c) e.stamps.dels)) c.doc.rows ≡ true
  pub cols : list_all (λ e. not (has_collectable_removal (floor_of c) e.stamps.dels)) c.doc.cols ≡ true

-- ---- what a replica shows

-- what the view shows, beside its numbers
abbrev pub view_content : View → ViewContent
view_content v = record {
  text = v.text;
  markers = v.markers;
  runs = v.runs;
  intervals = v.intervals;
  rows = v.rows;
  cols = v.cols;
  cells = v.cells;
}

-- what a replica shows, which is the same for each client that it stands for: P of that client; that it stopped, exactly where
-- it did; or OutOfMemory
abbrev pub AnswersRead : {A : Type 0} → (A → NaiveClient → Type 0) → ReplicaState → Result A ViewFault → Type 0
AnswersRead P r (Ok v) = (r.stop ≡ None) × ((x : NaiveClient) → IsReached x → StandsFor r.client x → P v x)
AnswersRead P r (Err viewing.OutOfMemory) = r.stop ≡ None
AnswersRead P r (Err (viewing.Stopped seq)) = r.stop ≡ Some seq

-- the summary of a replica with nothing pending, over a table of names
pub record SummarizesReplica (sum : SumDoc) (names : List Characters) (r : ReplicaState) : Type 0 where
  pub running : r.stop ≡ None
  pub idle : r.client.pending ≡ []
  pub valid : IsValidSummary sum
  pub doc : (x : NaiveClient) → IsReached x → StandsFor r.client x → Summarizes sum names r.origin x.doc

-- the answer to a request for a summary: the summary; that it stopped, exactly where it did; how many edits are pending,
-- exactly where some are; or OutOfMemory
abbrev pub AnswersSummary : List Characters → ReplicaState → Result SumDoc SummaryFault → Type 0
AnswersSummary names r (Ok sum) = SummarizesReplica sum names r
AnswersSummary names r (Err summing.OutOfMemory) = r.stop ≡ None
AnswersSummary names r (Err (summing.Stopped seq)) = r.stop ≡ Some seq
AnswersSummary names r (Err (summing.Pending count)) = (r.stop ≡ None) × (count ≡ length r.client.pending) × ¬ (r.client.pending ≡ [])

-- a new replica that stands for a client over the document
pub record StartsOver (r : ReplicaState) (doc : Document) (conns : ℕ) : Type 0 where
  pub runs : RunsFor r (client_over doc)
  pub held : r.held ≡ held_in doc
  pub origin : r.origin ≡ conns
