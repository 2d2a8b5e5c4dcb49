-- A client over a document of its own, and for which clients of the definitions it stands.
use Rattle.std.specs.Prelude.{◌≡◌, ◌≤◌, ◌+◌, ℕ, List, [], ◌∷◌, Option, Some, None, Result, Ok, Err, drop, fold, length, map, min, take}
use Rattle.ft_op.specs.declared.operations.ChannelOp.{ChannelOp}
use Rattle.ft_op.specs.Document.{Document, empty}
use Rattle.ft_msg.specs.declared.views.Link.{Link}
use Rattle.ft_msg.specs.declared.views.Link.TheVariants.{Offline}
use Rattle.ft_msg.specs.Answers.{FaultKind, Refusal, StoppedBefore, WantOfMemory}
use Rattle.ft_msg.specs.Client.{NaiveClient, PendingEdit, SentAs, client_over, floor}
use Rattle.ft_msg.specs.Compacted.{IsCompacted}
use Rattle.ft_msg.specs.declared.messages.Entry.{Entry}
use Rattle.ft_msg.specs.Process.{process}
use Rattle.ft_msg.specs.Indexed.{IndexedClient, IndexedEdit, IndexedStage}
use Rattle.ft_laws_compaction.specs.Keeping.{IsMadeOrKept}
use Rattle.ft_laws_names.specs.Renaming.{ShowsItsCells}
use Rattle.ft_laws_names.specs.WellNamed.{IsWellNamed}
use Rattle.ft_replica.specs.declared.document.Resent.{Resent}
use Rattle.ft_replica.specs.Own.{HeldDocument, ShownDocument, held_by}
use Rattle.ft_replica.specs.Unsent.{Unsent, with_sent}

-- a pending edit without its stages: how many it has, its reference number, and as what it was sent, if it was
pub record PendingPart : Type 0 where
  pub count : ℕ
  pub ref_seq : ℕ
  pub sent : Option SentAs

-- the part of a client's pending edit
abbrev pub part_of : PendingEdit → PendingPart
part_of e = record { count = length e.stages; ref_seq = e.ref_seq; sent = e.sent }

-- the lesser of a number and the least reference number
abbrev pub least_ref : ℕ → List PendingPart → ℕ
least_ref n edits = fold (λ n e. min n e.ref_seq) n edits

-- the lesser of a number and the reference number of the oldest edit, if there is one
abbrev pub oldest_ref : ℕ → List PendingPart → ℕ
oldest_ref n [] = n
oldest_ref n (e ∷ edits) = min n e.ref_seq

-- how many stages the oldest edit has
abbrev pub oldest_count : List PendingPart → ℕ
oldest_count [] = 0
oldest_count (e ∷ edits) = e.count

-- a document, a link, all connections that it used, the last stage taken, what isn't sent yet, and the pending edits in order
pub record LinkedState (D : Type 0) : Type 0 where
  pub document : D
  pub link : Link
  pub conns : List ℕ
  pub last_stage : ℕ
  pub box : Unsent
  pub pending : List PendingPart

-- offline over a document of messages alone
abbrev pub linked_over : {D : Type 0} → D → LinkedState D
linked_over d = record { document = d; link = Offline; conns = []; last_stage = 0; box = record { next = 1; drafts = [] }; pending = [] }

-- with all but its document from a client of the definitions
abbrev pub linked_as : {D : Type 0} → NaiveClient → D → LinkedState D
linked_as p d = record {
  document = d;
  link = p.link;
  conns = p.conns;
  last_stage = p.last_stage;
  box = record { next = p.next_client_seq; drafts = p.queue };
  pending = map part_of p.pending;
}

-- ---- what it shows

-- pending edits with places for names, where the stages of all are given
abbrev pub edits_shown : List IndexedStage → List PendingPart → List IndexedEdit
edits_shown stages [] = []
edits_shown stages (e ∷ edits) = record { stages = take e.count stages; ref_seq = e.ref_seq; sent = e.sent } ∷ edits_shown (drop e.count stages) edits

-- with places for names
abbrev pub client_shown : {D : Type 0} → (D → ShownDocument) → LinkedState D → IndexedClient
client_shown shown s = record {
  doc = (shown s.document).content;
  link = s.link;
  conns = s.conns;
  last_stage = s.last_stage;
  next_client_seq = s.box.next;
  queue = s.box.drafts;
  pending = edits_shown (shown s.document).pending s.pending;
}

-- a client with its numbers, its connections and its pending edits, of which these have no stages: enough to say why it refuses
-- a message
abbrev pub bare_edit : PendingPart → PendingEdit
bare_edit e = record { stages = []; ref_seq = e.ref_seq; sent = e.sent }

abbrev pub outline : ℕ → ℕ → List ℕ → List PendingPart → NaiveClient
outline number minimum conns pending = record (client_over (record empty { number = number; minimum = minimum })) { conns = conns; pending = map bare_edit pending }

-- ---- what it stands for

-- it stands for that client: it holds its document and its stages, and has all else of it
pub record IsLinkedAs {D : Type 0} (holds : D → HeldDocument → Type 0) (low : ℕ) (s : LinkedState D) (p : NaiveClient) : Type 0 where
  pub document : holds s.document (held_by low p)
  pub rest : s ≡ linked_as p s.document

-- it stands for a client that its steps made, or that keeps one which they made, and to which this applies
pub record RunsForOne {D : Type 0} (holds : D → HeldDocument → Type 0) (s : LinkedState D) (Fits : NaiveClient → Type 0) : Type 0 where
  pub start : Document
  pub client : NaiveClient
  pub made : IsMadeOrKept start client
  pub low : ℕ
  pub above : low ≤ floor client
  pub linked : IsLinkedAs holds low s client
  pub fits : Fits client

-- of each such client
abbrev pub Anyone : NaiveClient → Type 0
Anyone p = Unit {0}

-- after OutOfMemory: its link, its connections and its queue are as they were, and as many edits are pending
pub record KeepsLink {D : Type 0} (old new : LinkedState D) : Type 0 where
  pub link : new.link ≡ old.link
  pub conns : new.conns ≡ old.conns
  pub queue : new.box.drafts ≡ old.box.drafts
  pub pending : length new.pending ≡ length old.pending

-- what an error means: OutOfMemory, and what is kept then; never a stop; or a refusal
abbrev pub MeansFault : FaultKind → Type 0 → Type 0 → Type 0
MeansFault WantOfMemory kept refused = kept
MeansFault (StoppedBefore seq) kept refused = ⊥
MeansFault Refusal kept refused = refused

-- each client for which it stands takes the step, and it stands for the client after it
abbrev pub Takes : {D E : Type 0} → (D → HeldDocument → Type 0) → (NaiveClient → Result NaiveClient E) → LinkedState D → LinkedState D → Type 0
Takes holds step old new = (low : ℕ) (p : NaiveClient) → IsWellNamed p → IsLinkedAs holds low old p → (y : NaiveClient) × (step p ≡ Ok y) × IsLinkedAs holds low new y

-- each refuses so, and it still stands for it
abbrev pub Refuses : {D E : Type 0} → (D → HeldDocument → Type 0) → (NaiveClient → Result NaiveClient E) → E → LinkedState D → LinkedState D → Type 0
Refuses holds step fault old new = (low : ℕ) (p : NaiveClient) → IsWellNamed p → IsLinkedAs holds low old p → (step p ≡ Err fault) × IsLinkedAs holds low new p

-- the answer to a step: it is taken; or refused; or there was no memory
abbrev pub AnswersLinked : {D E : Type 0} → (D → HeldDocument → Type 0) → (E → FaultKind) → (NaiveClient → Result NaiveClient E) → LinkedState D → LinkedState D → Result (Unit {0}) E → Type 0
AnswersLinked holds kind step old new (Ok _) = Takes holds step old new
AnswersLinked holds kind step old new (Err fault) = MeansFault (kind fault) (KeepsLink old new) (Refuses holds step fault old new)

-- each client for which it stands is compacted
abbrev pub TakesCompaction : {D : Type 0} → (D → HeldDocument → Type 0) → LinkedState D → LinkedState D → Type 0
TakesCompaction holds old new =
    (low : ℕ) (p : NaiveClient) → IsWellNamed p → IsLinkedAs holds low old p → (fewer : NaiveClient) × IsCompacted fewer p × ShowsItsCells fewer p × IsLinkedAs holds (floor p) new fewer

-- each client for which it stands is compacted, and then takes the entry
abbrev pub TakesEntry : {D : Type 0} → (D → HeldDocument → Type 0) → Entry → LinkedState D → LinkedState D → Type 0
TakesEntry holds entry old new =
    (low : ℕ) (p : NaiveClient) → IsWellNamed p → IsLinkedAs holds low old p
    → (fewer : NaiveClient) × IsCompacted fewer p × ShowsItsCells fewer p × ((y : NaiveClient) × (process fewer entry ≡ Ok y) × IsLinkedAs holds (floor p) new y)

-- ---- what it sends again

-- a pending edit that is sent
abbrev pub sent_part : ℕ → ℕ → ℕ → Resent → ChannelOp → PendingPart
sent_part conn ref_seq n again op = record { count = again.stages; ref_seq = ref_seq; sent = Some (record { conn = conn; client_seq = n; op = op }) }

-- the edits that have a piece, under the connection, numbered from n on
abbrev pub sent_parts : ℕ → ℕ → ℕ → List Resent → List PendingPart
sent_parts conn ref_seq n [] = []
sent_parts conn ref_seq n (again ∷ rest) = elim again.op [
  | None ↦ sent_parts conn ref_seq n rest
  | Some op ↦ sent_part conn ref_seq n again op ∷ sent_parts conn ref_seq (n + 1) rest
]

-- what isn't sent yet, with these edits
abbrev pub with_parts : List PendingPart → Unsent → Unsent
with_parts [] box = box
with_parts (e ∷ edits) box = with_parts edits (with_sent e.sent e.ref_seq box)
