-- A client's steps depend on the names of its elements only up to renaming: two well named clients that are indexed alike answer
-- every step alike, are indexed alike afterwards, and show the same.
use Rattle.std.specs.Prelude.{◌≡◌, ◌≤◌, ℕ, true, List, Some, Result, Ok, Err, drop}
use Rattle.ft_op.specs.declared.operations.ChannelOp.{ChannelOp}
use Rattle.ft_sumdoc.specs.declared.summary.SumDoc.{SumDoc}
use Rattle.ft_msg.specs.declared.messages.Entry.{Entry}
use Rattle.ft_msg.specs.declared.faults.EditFault.{EditFault}
use Rattle.ft_msg.specs.declared.faults.LinkFault.{LinkFault}
use Rattle.ft_msg.specs.declared.faults.ProcessFault.{ProcessFault}
use Rattle.ft_msg.specs.declared.faults.ViewFault.{ViewFault}
use Rattle.ft_base.specs.Scan.{len}
use Rattle.ft_props.specs.Properties.{Characters}
use Rattle.ft_props.specs.Element.{ElementId, has_id}
use Rattle.ft_op.specs.Cells.{cell_value}
use Rattle.ft_op.specs.Document.{Document}
use Rattle.ft_msg.specs.Answers.{ReplicaState, edit_fault_kind, link_fault_kind, process_fault_kind, view_fault_kind}
use Rattle.ft_msg.specs.Blame.{blame}
use Rattle.ft_msg.specs.Client.{NaiveClient, client_over, connect, drop_link, local_edit, noop}
use Rattle.ft_msg.specs.Compacted.{IsCompacted, StandsFor}
use Rattle.ft_msg.specs.Content.{content}
use Rattle.ft_msg.specs.Indexed.{indexed_client}
use Rattle.ft_msg.specs.Overlap.{overlap}
use Rattle.ft_msg.specs.Process.{process}
use Rattle.ft_msg.specs.Reached.{IsReached}
use Rattle.ft_msg.specs.Reconnection.{regenerated}
use Rattle.ft_msg.specs.Summary.{GivesDocument, doc_of}
use Rattle.ft_msg.specs.SummaryOf.{Summarizes}
use Rattle.ft_sumdoc.specs.Valid.{IsValidSummary}
use Rattle.ft_msg.specs.WellFormed.{IsWellFormedMessage}
use Rattle.ft_laws_agreement.specs.Starts.{IsRunFrom, IsSoundRun}
use Rattle.std.specs.List.{list_all}
use Rattle.ft_msg.specs.ClientSteps.{ClientStep, after_step, after_steps, has_fitting_body, is_without_edits, taken_entries}
use Rattle.ft_laws_compaction.specs.Keeping.{AnswersEach, DoesStep, IsMadeOrKept}
use Rattle.ft_laws_names.specs.WellNamed.{IsWellNamed}

-- two well named clients that are indexed alike
pub record DifferInNames (p q : NaiveClient) : Type 0 where
  pub left : IsWellNamed p
  pub right : IsWellNamed q
  pub same : indexed_client p ≡ indexed_client q

-- two answers to one step: the same refusal, or two clients that differ in names
pub data AnswersUpToNames (E : Type 0) : Result NaiveClient E → Result NaiveClient E → Type 0 where
  refused : (fault : E) → AnswersUpToNames E (Err fault) (Err fault)
  taken : (p q : NaiveClient) → DifferInNames p q → AnswersUpToNames E (Ok p) (Ok q)

-- ---- steps

abbrev pub EditsIgnoreNames : Type 0
EditsIgnoreNames = (p q : NaiveClient) (op : ChannelOp) → DifferInNames p q → AnswersUpToNames EditFault (local_edit p op) (local_edit q op)

-- a message of another client, its own message, its own join, or its numbers alone
abbrev pub EntriesIgnoreNames : Type 0
EntriesIgnoreNames = (p q : NaiveClient) (entry : Entry) → DifferInNames p q → AnswersUpToNames ProcessFault (process p entry) (process q entry)

abbrev pub ConnectsIgnoreNames : Type 0
ConnectsIgnoreNames = (p q : NaiveClient) (conn : ℕ) → DifferInNames p q → AnswersUpToNames LinkFault (connect p conn) (connect q conn)

abbrev pub DropsIgnoreNames : Type 0
DropsIgnoreNames = (p q : NaiveClient) → DifferInNames p q → AnswersUpToNames LinkFault (drop_link p) (drop_link q)

abbrev pub IdlesIgnoreNames : Type 0
IdlesIgnoreNames = (p q : NaiveClient) → DifferInNames p q → AnswersUpToNames LinkFault (noop p) (noop q)

abbrev pub SendsIgnoreNames : Type 0
SendsIgnoreNames = (p q : NaiveClient) → DifferInNames p q → DifferInNames (record p { queue = drop 1 p.queue }) (record q { queue = drop 1 q.queue })

abbrev pub RestartsIgnoreNames : Type 0
RestartsIgnoreNames = (p q : NaiveClient) → DifferInNames p q → is_without_edits p ≡ true → DifferInNames (client_over p.doc) (client_over q.doc)

-- what both show, and as what both would send their pending edits again
pub record ShowTheSame (p q : NaiveClient) : Type 0 where
  pub content : content p ≡ content q
  pub overlap : (label : Characters) (a b : ℕ) → overlap p label a b ≡ overlap q label a b
  pub blame : blame p ≡ blame q
  pub regenerated : regenerated p ≡ regenerated q

abbrev pub ViewsIgnoreNames : Type 0
ViewsIgnoreNames = (p q : NaiveClient) → DifferInNames p q → ShowTheSame p q

-- ---- well named clients

-- each step leaves a well named client well named
abbrev pub StepsKeepNames : Type 0
StepsKeepNames = (x y : NaiveClient) (step : ClientStep) → IsWellNamed x → after_step x step ≡ Some y → IsWellNamed y

-- each client that its steps made from a sound start on is well named
abbrev pub ClientsAreWellNamed : Type 0
ClientsAreWellNamed = (start : Document) (steps : List ClientStep) (x : NaiveClient) → IsRunFrom start steps x → IsWellNamed x

-- so is the client over the document of a valid summary
abbrev pub SummariesAreWellNamed : Type 0
SummariesAreWellNamed = (sum : SumDoc) → IsValidSummary sum → IsWellNamed (client_over (doc_of sum))

-- each client that keeps a well named one is
abbrev pub KeptAreWellNamed : Type 0
KeptAreWellNamed = (x kept : NaiveClient) → IsWellNamed x → IsCompacted kept x → IsWellNamed kept

-- so each client is that steps made from a document on, or that keeps one which they made
abbrev pub MadeOrKeptAreWellNamed : Type 0
MadeOrKeptAreWellNamed = (start : Document) (kept : NaiveClient) → IsMadeOrKept start kept → IsWellNamed kept

-- ---- replicas

-- what a replica does on one well named client that it shows, it answers for each client for which it stands, as is promised of
-- a replica
abbrev pub OneEditAnswersAll : Type 0
OneEditAnswersAll =
    (start : Document) (old new : ReplicaState) (op : ChannelOp) (result : Result (Unit {0}) EditFault) (p : NaiveClient) → IsWellNamed p → indexed_client p ≡ old.client → DoesStep edit_fault_kind old new p (local_edit p op) result
    → AnswersEach start edit_fault_kind old new (λ y. local_edit y op) result

abbrev pub OneEntryAnswersAll : Type 0
OneEntryAnswersAll =
    (start : Document) (old new : ReplicaState) (entry : Entry) (result : Result (Unit {0}) ProcessFault) (p : NaiveClient) → IsWellFormedMessage entry.msg → IsWellNamed p → indexed_client p ≡ old.client → DoesStep process_fault_kind old new p (process p entry) result
    → AnswersEach start process_fault_kind old new (λ y. process y entry) result

abbrev pub OneConnectAnswersAll : Type 0
OneConnectAnswersAll =
    (start : Document) (old new : ReplicaState) (conn : ℕ) (result : Result (Unit {0}) LinkFault) (p : NaiveClient) → IsWellNamed p → indexed_client p ≡ old.client → DoesStep link_fault_kind old new p (connect p conn) result
    → AnswersEach start link_fault_kind old new (λ y. connect y conn) result

abbrev pub OneDropAnswersAll : Type 0
OneDropAnswersAll =
    (start : Document) (old new : ReplicaState) (result : Result (Unit {0}) LinkFault) (p : NaiveClient) → IsWellNamed p → indexed_client p ≡ old.client → DoesStep link_fault_kind old new p (drop_link p) result
    → AnswersEach start link_fault_kind old new drop_link result

abbrev pub OneIdleAnswersAll : Type 0
OneIdleAnswersAll =
    (start : Document) (old new : ReplicaState) (result : Result (Unit {0}) LinkFault) (p : NaiveClient) → IsWellNamed p → indexed_client p ≡ old.client → DoesStep link_fault_kind old new p (noop p) result
    → AnswersEach start link_fault_kind old new noop result

-- what one well named client that it shows, shows is what each client for which it stands shows
pub record ShowsOf (p x : NaiveClient) : Type 0 where
  pub content : content p ≡ content x
  pub overlap : (label : Characters) (a b : ℕ) → overlap p label a b ≡ overlap x label a b
  pub blame : blame p ≡ blame x

abbrev pub OneViewAnswersAll : Type 0
OneViewAnswersAll = (state : ReplicaState) (p : NaiveClient) → IsWellNamed p → indexed_client p ≡ state.client → (x : NaiveClient) → IsReached x → StandsFor state.client x → ShowsOf p x

-- a summary of one well named client that it shows, with the first names of a table, up to origin, is one of each client for which
-- it stands
abbrev pub OneSummaryAnswersAll : Type 0
OneSummaryAnswersAll =
    (state : ReplicaState) (sum : SumDoc) (names : List Characters) (origin : ℕ) (p : NaiveClient) → IsWellNamed p → indexed_client p ≡ state.client
    → Summarizes sum names origin p.doc → (x : NaiveClient) → IsReached x → StandsFor state.client x → Summarizes sum names origin x.doc

-- the cells of the units that are kept are shown as before
abbrev pub ShowsItsCells : NaiveClient → NaiveClient → Type 0
ShowsItsCells kept x = (row col : ElementId) → 1 ≤ len (has_id row) kept.doc.rows.items → 1 ≤ len (has_id col) kept.doc.cols.items → cell_value row col kept.doc.cells ≡ cell_value row col x.doc.cells

-- what may be left out of one of two clients may be left out of the other, at the same places
abbrev pub CompactionsIgnoreNames : Type 0
CompactionsIgnoreNames = (p q fewer : NaiveClient) → DifferInNames p q → IsCompacted fewer p → ShowsItsCells fewer p → (other : NaiveClient) × (IsCompacted other q × (indexed_client fewer ≡ indexed_client other))

-- it compacts one well named client that it shows, where it finds the memory
abbrev pub CompactsOne : ReplicaState → ReplicaState → NaiveClient → Result (Unit {0}) ViewFault → Type 0
CompactsOne old new p (Ok _) = (new.held ≡ old.held) × ((fewer : NaiveClient) × IsCompacted fewer p × ShowsItsCells fewer p × (indexed_client fewer ≡ new.client))
CompactsOne old new p (Err fault) = Unit {0}

-- and so stands for the same clients
abbrev pub OneCompactionServesAll : Type 0
OneCompactionServesAll =
    (start : Document) (old new : ReplicaState) (result : Result (Unit {0}) ViewFault) (p : NaiveClient) → IsWellNamed p → indexed_client p ≡ old.client → CompactsOne old new p result
    → AnswersEach start view_fault_kind old new (λ x. Ok x) result

-- ---- starts from summaries

-- a client that starts from a summary of one with nothing pending takes the steps that one takes which starts from its document, and
-- shows the same
abbrev pub SummaryStartShowsTheSame : Type 0
SummaryStartShowsTheSame =
    (steps : List ClientStep) (x : NaiveClient) → IsSoundRun steps x → is_without_edits x ≡ true → (sum : SumDoc) → IsValidSummary sum → GivesDocument sum x.doc
    → (further : List ClientStep) (z : NaiveClient) → after_steps (Some (client_over x.doc)) further ≡ Some z → list_all has_fitting_body (taken_entries further) ≡ true
    → (w : NaiveClient) × (after_steps (Some (client_over (doc_of sum))) further ≡ Some w) × (content w ≡ content z)
