-- A document with its pending stages as a client keeps it: what it shows of itself, and for which documents of the definitions it
-- stands. Those have names for their elements, which it needn't have; so what a document does is said of each that it holds.
use Rattle.std.specs.Prelude.{◌≡◌, ◌≤◌, ◌^◌, ◌+◌, ◌*◌, ℕ, cond, nat_le, not, ⊤, Option, Some, None, Result, Ok, Err, List, [], ◌∷◌, ◌++◌, filter, length, map, flat_map, true}
use Rattle.std.specs.List.{list_all}
use Rattle.std.specs.Ordering.{is_eq}
use Rattle.ft_op.specs.declared.operations.BaseOp.TheVariants.{Insert}
use Rattle.ft_op.specs.declared.operations.CellOp.TheVariants.{SpliceIn}
use Rattle.ft_op.specs.declared.operations.ChannelOp.{ChannelOp}
use Rattle.ft_op.specs.declared.operations.ChannelOp.TheVariants.{Grid, Text}
use Rattle.ft_op.specs.declared.operations.GridOp.TheVariants.{One as OneCell}
use Rattle.ft_op.specs.declared.operations.Target.TheVariants.{Rows, Cols}
use Rattle.ft_op.specs.declared.operations.TextOp.TheVariants.{One}
use Rattle.ft_op.specs.Operation.{segment_contents}
use Rattle.ft_op.specs.Document.{Document}
use Rattle.ft_op.specs.Pieces.{op_of, pieces}
use Rattle.ft_op.specs.Stages.{Stage}
use Rattle.ft_props.specs.Element.{NamelessElement}
use Rattle.ft_props.specs.Properties.{Characters, text_cmp}
use Rattle.ft_props.specs.Compaction.{has_collectable_removal}
use Rattle.ft_msg.specs.declared.faults.EditFault.{EditFault}
use Rattle.ft_msg.specs.declared.messages.Entry.{Entry}
use Rattle.ft_msg.specs.Acknowledgement.{ack_stages, renamed_stage}
use Rattle.ft_msg.specs.Agreed.{take_entry, with_numbers}
use Rattle.ft_msg.specs.Answers.{FaultKind, HeldCounts, Refusal, StoppedBefore, WantOfMemory, edit_fault_kind, held_in}
use Rattle.ft_msg.specs.Client.{NaiveClient, PendingEdit, floor, stages_of}
use Rattle.ft_msg.specs.Compacted.{KeepsDocument}
use Rattle.ft_msg.specs.Indexed.{IndexedDocument, IndexedStage, indexed, indexed_stage}
use Rattle.ft_msg.specs.Overlap.{ReadsFewNodes, overlap, pending_on_intervals}
use Rattle.ft_msg.specs.Reconnection.{carried_stage, rebuilt_document}
use Rattle.ft_laws_compaction.specs.Keeping.{IsMadeOrKept}
use Rattle.ft_laws_names.specs.Renaming.{ShowsItsCells}
use Rattle.ft_laws_names.specs.WellNamed.{AreWellNamed}
use Rattle.ft_replica.specs.declared.document.OwnNumbers.{OwnNumbers}
use Rattle.ft_replica.specs.declared.document.Resent.{Resent}

-- ---- what it shows

-- a document with places for names, its pending stages in order, and how many elements were ever in each list
pub record ShownDocument : Type 0 where
  pub content : IndexedDocument
  pub pending : List IndexedStage
  pub counts : HeldCounts

-- the numbers that it tells
abbrev pub numbers_in : ShownDocument → OwnNumbers
numbers_in shown = record {
  number = shown.content.number;
  minimum = shown.content.minimum;
  skipped = shown.content.skipped;
  other = shown.content.other;
  text = shown.counts.text;
  rows = shown.counts.rows;
  cols = shown.counts.cols;
}

-- ---- what it holds

-- a document of the definitions with its pending stages in order, the last stage that was taken, and the highest floor at which
-- elements may have been taken away
pub record HeldDocument : Type 0 where
  pub doc : Document
  pub stages : List Stage
  pub last : ℕ
  pub low : ℕ

-- the document of a client with its pending stages
abbrev pub held_by : ℕ → NaiveClient → HeldDocument
held_by low p = record { doc = p.doc; stages = stages_of p; last = p.last_stage; low = low }

-- what is shown is that document with those stages
pub record Shows (shown : ShownDocument) (held : HeldDocument) : Type 0 where
  pub content : shown.content ≡ indexed held.doc
  pub pending : shown.pending ≡ map (indexed_stage held.doc) held.stages
  pub counts : shown.counts ≡ held_in held.doc

-- the names in it fit
abbrev pub NamesFit : HeldDocument → Type 0
NamesFit held = AreWellNamed held.last held.doc held.stages

-- it holds the document and the stages of a client that its steps made from a start, or that keeps one which they made, at no
-- lower floor than before. So all that is known of such a client may be relied on
pub record HoldsOne {D : Type 0} (holds : D → HeldDocument → Type 0) (d : D) (Fits : NaiveClient → Type 0) : Type 0 where
  pub start : Document
  pub client : NaiveClient
  pub made : IsMadeOrKept start client
  pub low : ℕ
  pub above : low ≤ floor client
  pub document : holds d (held_by low client)
  pub fits : Fits client

-- ---- what its calls make of it

-- what an error means that leaves it as it was, where no stop is told
abbrev pub MeansRefused : FaultKind → Type 0 → Type 0
MeansRefused WantOfMemory refused = ⊤
MeansRefused (StoppedBefore seq) refused = ⊥
MeansRefused Refusal refused = refused

-- with these further stages
abbrev pub with_stages : Document → List Stage → HeldDocument → HeldDocument
with_stages doc stages held = record held { doc = doc; stages = held.stages ++ stages; last = held.last + length stages }

-- the answer to an edit: how many stages it has, where the steps make the new document and them; or the refusal, and it still holds
-- what it held; of OutOfMemory nothing is said
abbrev pub AnswersStages : (HeldDocument → Type 0) → HeldDocument → Result (Document × List Stage) EditFault → Result ℕ EditFault → Type 0
AnswersStages Holds held steps (Ok count) = (taken : Document × List Stage) × (steps ≡ Ok taken) × (length taken.1 ≡ count) × Holds (with_stages taken.0 taken.1 held)
AnswersStages Holds held steps (Err fault) = MeansRefused (edit_fault_kind fault) ((steps ≡ Err fault) × Holds held)

-- the list into which a single insertion of units, of a marker or of at most 256 characters goes
abbrev pub counted_list : ChannelOp → IndexedDocument → Option (List NamelessElement)
counted_list (Text (One (Insert p seg props))) shown = cond (nat_le (length (segment_contents seg)) 256) (Some shown.text) None
counted_list (Grid (OneCell (SpliceIn Rows p count))) shown = Some shown.rows
counted_list (Grid (OneCell (SpliceIn Cols p count))) shown = Some shown.cols
counted_list _ shown = None

-- from one count of steps to another there are at most 9 for each level of a tree with at least 4 children a block and an element
-- a leaf, and 9 more
abbrev pub AreFew : Option (List NamelessElement) → ℕ → ℕ → Type 0
AreFew None before after = Unit {0}
AreFew (Some list) before after = (d : ℕ) × (4 ^ d ≤ length list + 1) × (after ≤ before + 9 * (d + 1))

abbrev pub ReadsFew : ChannelOp → IndexedDocument → ℕ → ℕ → Type 0
ReadsFew op shown before after = AreFew (counted_list op shown) before after

-- from one count of node reads to the other are no more than a search in an index of the client's intervals takes for each interval
-- of the label that meets the places, for each pending one, and once more
abbrev pub ReadsFewNodesFor : NaiveClient → Characters → ℕ → ℕ → ℕ → ℕ → Type 0
ReadsFewNodesFor p label a b before after = ReadsFewNodes (length p.doc.intervals) (length (overlap p label a b) + pending_on_intervals p) before after

-- the same with those alone that have the label
abbrev pub ReadsFewOfLabelFor : NaiveClient → Characters → ℕ → ℕ → ℕ → ℕ → Type 0
ReadsFewOfLabelFor p label a b before after =
    ReadsFewNodes (length (filter (λ i. is_eq (text_cmp label i.label)) p.doc.intervals)) (length (overlap p label a b) + pending_on_intervals p) before after

-- after a message of another client
abbrev pub with_entry : Entry → HeldDocument → HeldDocument
with_entry entry held = record held { doc = take_entry held.doc entry }

-- the stages of the oldest pending edit
abbrev pub oldest_stages : List PendingEdit → List Stage
oldest_stages [] = []
oldest_stages (e ∷ edits) = e.stages

-- after the acknowledgement of these first stages, where these are the others
abbrev pub acknowledged : Entry → List Stage → List Stage → HeldDocument → HeldDocument
acknowledged entry own rest held =
    let acked = ack_stages entry.msg.seq entry.origin (λ i. i) own held.doc in
    record held { doc = with_numbers entry acked.0; stages = map (renamed_stage acked.1) rest }

-- after its own join
abbrev pub rejoined : Entry → HeldDocument → HeldDocument
rejoined entry held =
    let doc = with_numbers entry held.doc in
    record held { doc = rebuilt_document (map (λ t. t.stage) held.stages) doc; stages = flat_map (carried_stage doc) held.stages }

-- the stages of an edit as they are sent again: its operation, and how many go on
abbrev pub resent : Document → List Stage → Resent
resent doc stages = record { op = op_of (flat_map (pieces doc) stages); stages = length (flat_map (carried_stage doc) stages) }

-- after compaction at its floor it holds a document that keeps that of the client
pub record Compacts {D : Type 0} (holds : D → HeldDocument → Type 0) (d : D) (p : NaiveClient) : Type 0 where
  pub fewer : Document
  pub keeps : KeepsDocument p fewer
  pub cells : ShowsItsCells (record p { doc = fewer }) p
  pub document : holds d (record (held_by (floor p) p) { doc = fewer })

-- nothing is shown that was removed at or below n
pub record HasNoTombstone (n : ℕ) (shown : IndexedDocument) : Type 0 where
  pub text : list_all (λ e. not (has_collectable_removal n e.stamps.dels)) shown.text ≡ true
  pub rows : list_all (λ e. not (has_collectable_removal n e.stamps.dels)) shown.rows ≡ true
  pub cols : list_all (λ e. not (has_collectable_removal n e.stamps.dels)) shown.cols ≡ true
