-- The documents that a client may begin with, the empty one and that of a summary among them, and the laws of agreement for a
-- client that began with one of them.
use Rattle.std.specs.Prelude.{◌≡◌, ℕ, ◌+◌, ◌≤◌, Bool, true, false, ◌&&◌, nat_le, List, [], ◌∷◌, Option, Some, None, length}
use Rattle.std.specs.List.{list_all}
use Rattle.ft_base.specs.declared.stamps.Stamp.{Stamp}
use Rattle.ft_base.specs.declared.stamps.Stamp.TheVariants.{Acked, Local}
use Rattle.ft_sumdoc.specs.declared.summary.SumDoc.{SumDoc}
use Rattle.ft_msg.specs.declared.messages.Entry.{Entry}
use Rattle.ft_props.specs.Element.{ListElement}
use Rattle.ft_op.specs.Document.{Document, empty, sequenced_part}
use Rattle.ft_msg.specs.Agreed.{take_entries, with_numbers}
use Rattle.ft_msg.specs.Applied.{numbered}
use Rattle.ft_msg.specs.Client.{NaiveClient, client_over}
use Rattle.ft_msg.specs.ClientSteps.{ClientStep, after_steps, has_fitting_body, is_without_edits, taken_entries}
use Rattle.ft_msg.specs.Content.{ViewContent, content, shown}
use Rattle.ft_msg.specs.Process.{come_online}
use Rattle.ft_msg.specs.Reached.{IsReached}
use Rattle.ft_msg.specs.Reconnection.{regenerated}
use Rattle.ft_msg.specs.Summary.{doc_of}
use Rattle.ft_sumdoc.specs.Valid.{IsValidSummary}
use Rattle.ft_laws_agreement.specs.Agreement.{HaveSameViews, IsRun}
use Rattle.ft_laws_agreement.specs.Sequencing.{IsReady, is_cell_below}
use Rattle.ft_laws_agreement.specs.Trimming.{IsConsistent}

-- ---- starts

-- whether the stamp is sequenced, with a number up to n
abbrev pub is_sequenced_up_to : ℕ → Stamp → Bool
is_sequenced_up_to n (Acked s c) = nat_le s n
is_sequenced_up_to n (Local k) = false

-- whether there is nothing
abbrev pub is_nothing : {A : Type 0} → Option A → Bool
is_nothing None = true
is_nothing (Some x) = false

-- whether the list has no items
abbrev pub has_no_items : {A : Type 0} → List A → Bool
has_no_items [] = true
has_no_items (x ∷ xs) = false

-- whether all stamps of the element are sequenced, with numbers up to n, and nothing is pending on it
abbrev pub is_settled : ℕ → ListElement → Bool
is_settled n e = is_sequenced_up_to n e.ins && list_all (is_sequenced_up_to n) e.dels && is_nothing e.removal_stage && has_no_items e.pending

-- a document that a client may begin with: it is as messages make it, nothing in it is pending, its stamps have numbers up to
-- its own, its cells are of rows and columns that were made, and its minimum is at most its number
pub record IsSoundStart (doc : Document) : Type 0 where
  pub consistent : IsConsistent doc
  pub numbers : doc.minimum ≤ doc.number
  pub text : list_all (is_settled doc.number) doc.text.items ≡ true
  pub rows : list_all (is_settled doc.number) doc.rows.items ≡ true
  pub cols : list_all (is_settled doc.number) doc.cols.items ≡ true
  pub cells : list_all (is_cell_below doc.rows.made doc.cols.made) doc.cells ≡ true

-- the empty document is one
abbrev pub EmptyIsSoundStart : Type 0
EmptyIsSoundStart = IsSoundStart empty

-- and so is that of a valid summary
abbrev pub SummaryIsSoundStart : Type 0
SummaryIsSoundStart = (sum : SumDoc) → IsValidSummary sum → IsSoundStart (doc_of sum)

-- ---- clients that began with one

-- steps that a client takes from such a document on, refusing none, where each message has a body just where it is of type op
pub record IsRunFrom (start : Document) (steps : List ClientStep) (x : NaiveClient) : Type 0 where
  pub sound : IsSoundStart start
  pub made : after_steps (Some (client_over start)) steps ≡ Some x
  pub bodies : list_all has_fitting_body (taken_entries steps) ≡ true

-- steps from the empty document on are such
abbrev pub RunsAreRunsFromEmpty : Type 0
RunsAreRunsFromEmpty = (steps : List ClientStep) (x : NaiveClient) → IsRun steps x → IsRunFrom empty steps x

-- and so are those of each client of which promises speak
abbrev pub ReachedAreRunsFromStart : Type 0
ReachedAreRunsFromStart = (x : NaiveClient) (r : IsReached x) → IsRunFrom r.start r.steps x

-- steps from some such document on
pub record IsSoundRun (steps : List ClientStep) (x : NaiveClient) : Type 0 where
  pub start : Document
  pub run : IsRunFrom start steps x

-- without what is pending its document is the start with the entries that it took
abbrev pub ClientsAgreeFromStart : Type 0
ClientsAgreeFromStart = (start : Document) (steps : List ClientStep) (x : NaiveClient) → IsRunFrom start steps x → sequenced_part x.doc ≡ take_entries start (taken_entries steps)

-- with nothing pending it is just that document, and that is shown
abbrev pub IdleClientsAgreeFromStart : Type 0
IdleClientsAgreeFromStart = (start : Document) (steps : List ClientStep) (x : NaiveClient) → IsRunFrom start steps x → is_without_edits x ≡ true → x.doc ≡ take_entries start (taken_entries steps)

abbrev pub IdleClientsShowFromStart : Type 0
IdleClientsShowFromStart = (start : Document) (steps : List ClientStep) (x : NaiveClient) → IsRunFrom start steps x → is_without_edits x ≡ true → content x ≡ shown (take_entries start (taken_entries steps))

-- its number is that of the start and of the entries that it took
abbrev pub EntriesAreCountedFromStart : Type 0
EntriesAreCountedFromStart = (start : Document) (steps : List ClientStep) (x : NaiveClient) → IsRunFrom start steps x → x.doc.number ≡ start.number + length (taken_entries steps)

-- its pending edits can be sequenced next
abbrev pub ClientIsReadyFromStart : Type 0
ClientIsReadyFromStart = (start : Document) (steps : List ClientStep) (x : NaiveClient) → IsRunFrom start steps x → IsReady x

-- what a document shows with the client's pending operations, as they would be sent again, sequenced next
abbrev pub shown_with_pending : Document → NaiveClient → ℕ → ViewContent
shown_with_pending doc x conn = shown (take_entries doc (numbered (x.doc.number + 1) x.doc.number x.doc.minimum conn (regenerated x)))

-- it shows the start with the entries that it took and its pending operations next
abbrev pub PendingStaysOnTopFromStart : Type 0
PendingStaysOnTopFromStart =
    (start : Document) (steps : List ClientStep) (x : NaiveClient) (conn : ℕ) → IsRunFrom start steps x → content x ≡ shown_with_pending (take_entries start (taken_entries steps)) x conn

-- it shows the same after its own join
abbrev pub JoinChangesNothingFromStart : Type 0
JoinChangesNothingFromStart = (start : Document) (steps : List ClientStep) (x : NaiveClient) (entry : Entry) → IsRunFrom start steps x → content (come_online x entry) ≡ content x

-- and sees at each of its stages the same elements, and agrees as before
abbrev pub ReconnectionKeepsViewsFromStart : Type 0
ReconnectionKeepsViewsFromStart =
    (start : Document) (steps : List ClientStep) (x : NaiveClient) (entry : Entry) (k : ℕ) → IsRunFrom start steps x → k ≤ x.last_stage → HaveSameViews k x.doc (come_online x entry).doc

abbrev pub ReconnectionAgreesFromStart : Type 0
ReconnectionAgreesFromStart =
    (start : Document) (steps : List ClientStep) (x : NaiveClient) (entry : Entry) → IsRunFrom start steps x
    → sequenced_part (come_online x entry).doc ≡ with_numbers entry (take_entries start (taken_entries steps))
