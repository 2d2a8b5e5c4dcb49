-- A compacted client is as good as the whole one: it refuses what that refuses, takes what that takes and stays compacted, and
-- shows the same.
use Rattle.std.specs.Prelude.{◌≡◌, ◌≤◌, ℕ, Bool, true, not, ◌&&◌, List, [], ◌∷◌, ◌++◌, Option, Some, None, Result, Ok, Err, drop, filter}
use Rattle.std.specs.List.{list_all, list_any}
use Rattle.ft_op.specs.declared.operations.ChannelOp.{ChannelOp}
use Rattle.ft_sumdoc.specs.declared.summary.IntervalRec.{IntervalRec}
use Rattle.ft_sumdoc.specs.declared.summary.SumDoc.{SumDoc}
use Rattle.ft_msg.specs.declared.messages.Entry.{Entry}
use Rattle.ft_msg.specs.declared.faults.EditFault.{EditFault}
use Rattle.ft_msg.specs.declared.faults.LinkFault.{LinkFault}
use Rattle.ft_msg.specs.declared.faults.ProcessFault.{ProcessFault}
use Rattle.ft_msg.specs.declared.faults.ViewFault.{ViewFault}
use Rattle.ft_msg.specs.declared.views.View.{View}
use Rattle.ft_props.specs.Properties.{Characters}
use Rattle.ft_props.specs.Element.{has_sequenced_removal}
use Rattle.ft_props.specs.Compaction.{is_collectable, trim_list}
use Rattle.ft_op.specs.Document.{Document}
use Rattle.ft_msg.specs.Answers.{AnswersClient, FaultKind, MeansRefusal, ReplicaState, RiseAlike, edit_fault_kind, held_in, link_fault_kind, process_fault_kind, view_content, view_fault_kind}
use Rattle.ft_msg.specs.Blame.{blame}
use Rattle.ft_msg.specs.Client.{NaiveClient, client_over, connect, drop_link, floor, local_edit, noop}
use Rattle.ft_msg.specs.Compacted.{IsCompacted, StandsFor}
use Rattle.ft_msg.specs.Agreed.{take_entries}
use Rattle.ft_msg.specs.Content.{content, shown}
use Rattle.ft_msg.specs.Indexed.{indexed, indexed_client}
use Rattle.ft_msg.specs.Overlap.{overlap}
use Rattle.ft_msg.specs.Process.{process}
use Rattle.ft_msg.specs.Reached.{IsReached}
use Rattle.ft_msg.specs.Summary.{GivesDocument, trim}
use Rattle.ft_msg.specs.WellFormed.{IsWellFormedMessage}
use Rattle.ft_laws_agreement.specs.Sequencing.{IsReady}
use Rattle.ft_laws_agreement.specs.Starts.{IsRunFrom, IsSoundRun, IsSoundStart}
use Rattle.ft_msg.specs.ClientSteps.{ClientStep, after_step, after_steps, has_fitting_body, is_without_edits, taken_entries}
use Rattle.ft_laws_agreement.specs.Trimming.{are_distinct_elements, has_ends_on}
use Rattle.ft_laws_compaction.specs.Free.{HasFreeTombstones}

-- ---- steps

-- two answers to one step: the same refusal, or two clients of which the first keeps the second
pub data AnswersAlike (E : Type 0) : Result NaiveClient E → Result NaiveClient E → Type 0 where
  refused : (fault : E) → AnswersAlike E (Err fault) (Err fault)
  taken : (kept x : NaiveClient) → IsCompacted kept x → AnswersAlike E (Ok kept) (Ok x)

-- a compacted client answers alike to an edit of its own
abbrev pub EditsAnswerAlike : Type 0
EditsAnswerAlike = (steps : List ClientStep) (x kept : NaiveClient) (op : ChannelOp) → IsSoundRun steps x → IsCompacted kept x → AnswersAlike EditFault (local_edit kept op) (local_edit x op)

-- and to each entry: a message of another client, its own message, its own join
abbrev pub EntriesAnswerAlike : Type 0
EntriesAnswerAlike =
    (steps : List ClientStep) (x kept : NaiveClient) (entry : Entry) → IsSoundRun steps x → IsCompacted kept x → has_fitting_body entry ≡ true → AnswersAlike ProcessFault (process kept entry) (process x entry)

-- and to each change of its link
abbrev pub ConnectsAlike : Type 0
ConnectsAlike = (x kept : NaiveClient) (conn : ℕ) → IsCompacted kept x → AnswersAlike LinkFault (connect kept conn) (connect x conn)

abbrev pub DropsAlike : Type 0
DropsAlike = (x kept : NaiveClient) → IsCompacted kept x → AnswersAlike LinkFault (drop_link kept) (drop_link x)

abbrev pub IdlesAlike : Type 0
IdlesAlike = (x kept : NaiveClient) → IsCompacted kept x → AnswersAlike LinkFault (noop kept) (noop x)

-- its first draft goes to the sequencer
abbrev pub SendsAlike : Type 0
SendsAlike = (x kept : NaiveClient) → IsCompacted kept x → IsCompacted (record kept { queue = drop 1 kept.queue }) (record x { queue = drop 1 x.queue })

-- a new client starts from its document
abbrev pub RestartsAlike : Type 0
RestartsAlike = (x kept : NaiveClient) → IsCompacted kept x → is_without_edits x ≡ true → IsCompacted (client_over kept.doc) (client_over x.doc)

-- ---- what is shown

-- what a client and one that keeps it show, and what of them is one
pub record ShowAlike (kept x : NaiveClient) : Type 0 where
  pub content : content kept ≡ content x
  pub overlap : (label : Characters) (a b : ℕ) → overlap kept label a b ≡ overlap x label a b
  pub blame : blame kept ≡ blame x
  pub link : kept.link ≡ x.link
  pub queue : kept.queue ≡ x.queue
  pub pending : kept.pending ≡ x.pending
  pub last_stage : kept.last_stage ≡ x.last_stage
  pub next_client_seq : kept.next_client_seq ≡ x.next_client_seq
  pub conns : kept.conns ≡ x.conns
  pub number : kept.doc.number ≡ x.doc.number
  pub minimum : kept.doc.minimum ≡ x.doc.minimum
  pub skipped : kept.doc.skipped ≡ x.doc.skipped
  pub other : kept.doc.other ≡ x.doc.other

-- a compacted client shows the same
abbrev pub CompactedShowsTheSame : Type 0
CompactedShowsTheSame = (steps : List ClientStep) (x kept : NaiveClient) → IsSoundRun steps x → IsCompacted kept x → ShowAlike kept x

-- ---- compaction

-- each client keeps itself
abbrev pub KeepsItself : Type 0
KeepsItself = (x : NaiveClient) → IsCompacted x x

-- what keeps a compacted client keeps the whole one
abbrev pub CompactsFurther : Type 0
CompactsFurther = (x kept fewer : NaiveClient) → IsCompacted kept x → IsCompacted fewer kept → IsCompacted fewer x

-- in every client an element that was removed at or below the floor carries nothing pending, nothing names it, and it stands
-- before no pending element; so it is in each client that keeps it
abbrev pub TombstonesAreFree : Type 0
TombstonesAreFree = (steps : List ClientStep) (x kept : NaiveClient) → IsSoundRun steps x → IsCompacted kept x → HasFreeTombstones kept

-- the client with all left out that may be: elements removed at or below the floor, and cells of removed rows and columns
abbrev pub compacted : NaiveClient → NaiveClient
compacted x = record x {
  doc = record x.doc {
    text = trim_list (floor x) x.doc.text;
    rows = trim_list (floor x) x.doc.rows;
    cols = trim_list (floor x) x.doc.cols;
    cells = filter (λ c. not (has_sequenced_removal x.doc.rows.items c.row) && not (has_sequenced_removal x.doc.cols.items c.col)) x.doc.cells;
  };
}

-- whether no element may be left out
abbrev pub has_no_tombstone : ℕ → Document → Bool
has_no_tombstone floor doc = not (list_any (is_collectable floor) doc.text.items) && not (list_any (is_collectable floor) doc.rows.items) && not (list_any (is_collectable floor) doc.cols.items)

-- it keeps the client, and nothing more may be left out
abbrev pub FullyCompacted : Type 0
FullyCompacted = (steps : List ClientStep) (x kept : NaiveClient) → IsSoundRun steps x → IsCompacted kept x → IsCompacted (compacted kept) x × (has_no_tombstone (floor x) (compacted kept).doc ≡ true)

-- ---- summaries

-- a client that starts from a summary of a client with nothing pending keeps one that starts from its document
abbrev pub StartsFromSummary : Type 0
StartsFromSummary = (steps : List ClientStep) (x : NaiveClient) → IsSoundRun steps x → is_without_edits x ≡ true → IsCompacted (client_over (trim x.doc)) (client_over x.doc)

-- the summary of a compacted client is that of the whole one
abbrev pub SummariesAlike : Type 0
SummariesAlike = (steps : List ClientStep) (x kept : NaiveClient) → IsSoundRun steps x → IsCompacted kept x → indexed (trim kept.doc) ≡ indexed (trim x.doc)

-- ---- all steps

-- the steps of a client that is compacted in between
pub data CompactingSteps : NaiveClient → List ClientStep → NaiveClient → Type 0 where
  ends : {x : NaiveClient} → CompactingSteps x [] x
  steps_on : {x y z : NaiveClient} {step : ClientStep} {steps : List ClientStep} → after_step x step ≡ Some y → CompactingSteps y steps z → CompactingSteps x (step ∷ steps) z
  compacts : {x y z : NaiveClient} {steps : List ClientStep} → IsCompacted y x → CompactingSteps y steps z → CompactingSteps x steps z

-- one that takes these steps from a sound start on keeps the client that takes them without being compacted
abbrev pub CompactingKeeps : Type 0
CompactingKeeps = (start : Document) (steps : List ClientStep) (kept : NaiveClient) → IsSoundStart start → CompactingSteps (client_over start) steps kept → list_all has_fitting_body (taken_entries steps) ≡ true → (x : NaiveClient) × (IsSoundRun steps x × IsCompacted kept x)

-- and takes each further step that this takes, no other
pub data StepsAlike : Option NaiveClient → Option NaiveClient → Type 0 where
  none_takes : StepsAlike None None
  each_takes : (kept x : NaiveClient) → IsCompacted kept x → StepsAlike (Some kept) (Some x)

abbrev pub CompactedStepsAlike : Type 0
CompactedStepsAlike =
    (steps : List ClientStep) (x kept : NaiveClient) (step : ClientStep) → IsSoundRun steps x → IsCompacted kept x → list_all has_fitting_body (taken_entries (step ∷ [])) ≡ true → StepsAlike (after_step kept step) (after_step x step)

-- ---- replicas

-- a client that steps made from that document on, or one that keeps it
pub record IsMadeOrKept (start : Document) (kept : NaiveClient) : Type 0 where
  pub whole : NaiveClient
  pub reached : IsReached whole
  pub starts : reached.start ≡ start
  pub keeps : IsCompacted kept whole

-- what is known of each such client: its elements have names of their own, each end of an acknowledged interval is detached or
-- on an unremoved element, its minimum is at most its number, and what may be left out is free
pub record IsSoundlyKept (kept : NaiveClient) : Type 0 where
  pub text : are_distinct_elements kept.doc.text.items ≡ true
  pub rows : are_distinct_elements kept.doc.rows.items ≡ true
  pub cols : are_distinct_elements kept.doc.cols.items ≡ true
  pub ends : list_all (has_ends_on kept.doc.text.items) kept.doc.intervals ≡ true
  pub numbers : kept.doc.minimum ≤ kept.doc.number
  pub tombstones : HasFreeTombstones kept

abbrev pub KeptIsSound : Type 0
KeptIsSound = (start : Document) (kept : NaiveClient) → IsMadeOrKept start kept → IsSoundlyKept kept

-- and its pending edits can be sequenced next: what is pending is of its stages, the elements of each stand side by side as they
-- were typed, a pending element has no sequenced removal, and what a stage names is there
abbrev pub KeptIsReady : Type 0
KeptIsReady = (start : Document) (kept : NaiveClient) → IsMadeOrKept start kept → IsReady kept

-- what a replica does on a client that it shows: it takes the step, shows the client after it, and its counts rise alike; or it
-- refuses with the client's fault; of OutOfMemory and of a stop nothing is asked
abbrev pub DoesStep : {E : Type 0} → (E → FaultKind) → ReplicaState → ReplicaState → NaiveClient → Result NaiveClient E → Result (Unit {0}) E → Type 0
DoesStep kind old new kept step (Ok _) = (y : NaiveClient) × (step ≡ Ok y) × (indexed_client y ≡ new.client) × RiseAlike old.held new.held (held_in kept.doc) (held_in y.doc)
DoesStep kind old new kept step (Err fault) = MeansRefusal (kind fault) (step ≡ Err fault)

-- it does a step on each client that it shows
abbrev pub DoesStepOnEach : {E : Type 0} → Document → (E → FaultKind) → ReplicaState → ReplicaState → (NaiveClient → Result NaiveClient E) → Result (Unit {0}) E → Type 0
DoesStepOnEach start kind old new step result = (kept : NaiveClient) → IsMadeOrKept start kept → indexed_client kept ≡ old.client → DoesStep kind old new kept (step kept) result

-- and so answers it for each client for which it stands, as is promised of a replica
abbrev pub AnswersEach : {E : Type 0} → Document → (E → FaultKind) → ReplicaState → ReplicaState → (NaiveClient → Result NaiveClient E) → Result (Unit {0}) E → Type 0
AnswersEach start kind old new step result = (x : NaiveClient) (r : IsReached x) → r.start ≡ start → StandsFor old.client x → AnswersClient kind old new x (step x) result

abbrev pub ReplicaEdits : Type 0
ReplicaEdits =
    (start : Document) (old new : ReplicaState) (op : ChannelOp) (result : Result (Unit {0}) EditFault)
    → DoesStepOnEach start edit_fault_kind old new (λ y. local_edit y op) result → AnswersEach start edit_fault_kind old new (λ y. local_edit y op) result

abbrev pub ReplicaProcesses : Type 0
ReplicaProcesses =
    (start : Document) (old new : ReplicaState) (entry : Entry) (result : Result (Unit {0}) ProcessFault) → IsWellFormedMessage entry.msg
    → DoesStepOnEach start process_fault_kind old new (λ y. process y entry) result → AnswersEach start process_fault_kind old new (λ y. process y entry) result

abbrev pub ReplicaConnects : Type 0
ReplicaConnects =
    (start : Document) (old new : ReplicaState) (conn : ℕ) (result : Result (Unit {0}) LinkFault)
    → DoesStepOnEach start link_fault_kind old new (λ y. connect y conn) result → AnswersEach start link_fault_kind old new (λ y. connect y conn) result

abbrev pub ReplicaDrops : Type 0
ReplicaDrops = (start : Document) (old new : ReplicaState) (result : Result (Unit {0}) LinkFault) → DoesStepOnEach start link_fault_kind old new drop_link result → AnswersEach start link_fault_kind old new drop_link result

abbrev pub ReplicaIdles : Type 0
ReplicaIdles = (start : Document) (old new : ReplicaState) (result : Result (Unit {0}) LinkFault) → DoesStepOnEach start link_fault_kind old new noop result → AnswersEach start link_fault_kind old new noop result

-- it compacts each client that it shows, where it finds the memory
abbrev pub CompactsEach : Document → ReplicaState → ReplicaState → Result (Unit {0}) ViewFault → Type 0
CompactsEach start old new (Ok _) =
    (new.held ≡ old.held) × ((kept : NaiveClient) → IsMadeOrKept start kept → indexed_client kept ≡ old.client → (fewer : NaiveClient) × (IsCompacted fewer kept) × (indexed_client fewer ≡ new.client))
CompactsEach start old new (Err fault) = Unit {0}

-- and so stands for the same clients
abbrev pub ReplicaCompacts : Type 0
ReplicaCompacts = (start : Document) (old new : ReplicaState) (result : Result (Unit {0}) ViewFault) → CompactsEach start old new result → AnswersEach start view_fault_kind old new (λ x. Ok x) result

-- a replica that shows each client that it keeps shows each client for which it stands: a view, what meets a range, and the
-- document of a summary
abbrev pub ReplicaShows : Type 0
ReplicaShows =
    (start : Document) (r : ReplicaState) (view : View) → ((kept : NaiveClient) → IsMadeOrKept start kept → indexed_client kept ≡ r.client → view_content view ≡ content kept)
    → (x : NaiveClient) (reached : IsReached x) → reached.start ≡ start → StandsFor r.client x → view_content view ≡ content x

abbrev pub ReplicaOverlaps : Type 0
ReplicaOverlaps =
    (start : Document) (r : ReplicaState) (label : Characters) (a b : ℕ) (found : List IntervalRec) → ((kept : NaiveClient) → IsMadeOrKept start kept → indexed_client kept ≡ r.client → found ≡ overlap kept label a b)
    → (x : NaiveClient) (reached : IsReached x) → reached.start ≡ start → StandsFor r.client x → found ≡ overlap x label a b

abbrev pub ReplicaSums : Type 0
ReplicaSums =
    (start : Document) (r : ReplicaState) (sum : SumDoc) → ((kept : NaiveClient) → IsMadeOrKept start kept → indexed_client kept ≡ r.client → GivesDocument sum kept.doc)
    → (x : NaiveClient) (reached : IsReached x) → reached.start ≡ start → StandsFor r.client x → GivesDocument sum x.doc

-- ---- clients that start from a summary of another

-- what a client's first entries make, trimmed, shows the same after the further ones that it took as what they all make
abbrev pub TrimmedRunsShowTheSame : Type 0
TrimmedRunsShowTheSame =
    (start : Document) (steps : List ClientStep) (x : NaiveClient) (first further : List Entry) → IsRunFrom start steps x → taken_entries steps ≡ first ++ further
    → shown (take_entries (trim (take_entries start first)) further) ≡ shown (take_entries start (taken_entries steps))

-- a client that starts from the trimmed document of one with nothing pending takes the steps that one takes which starts from the
-- whole document, and shows the same
abbrev pub TrimmedStartShowsTheSame : Type 0
TrimmedStartShowsTheSame =
    (steps : List ClientStep) (x : NaiveClient) → IsSoundRun steps x → is_without_edits x ≡ true
    → (further : List ClientStep) (z : NaiveClient) → after_steps (Some (client_over x.doc)) further ≡ Some z → list_all has_fitting_body (taken_entries further) ≡ true
    → (w : NaiveClient) × (after_steps (Some (client_over (trim x.doc))) further ≡ Some w) × (content w ≡ content z)
