-- That clients agree.
use Rattle.std.specs.Prelude.{◌≡◌, ℕ, ◌≤◌, true, List, Some}
use Rattle.std.specs.List.{list_all}
use Rattle.ft_msg.specs.declared.messages.Entry.{Entry}
use Rattle.ft_op.specs.Document.{Document, empty, sequenced_part}
use Rattle.ft_msg.specs.Agreed.{agreed, with_numbers}
use Rattle.ft_msg.specs.Content.{content, shown, stage_view}
use Rattle.ft_msg.specs.Process.{come_online}
use Rattle.ft_msg.specs.Client.{NaiveClient, client_over}
use Rattle.ft_msg.specs.ClientSteps.{ClientStep, after_steps, has_fitting_body, is_without_edits, taken_entries}

-- steps that a client takes from the empty document on, refusing none, where each message has a body just where it is of type
-- op
pub record IsRun (steps : List ClientStep) (x : NaiveClient) : Type 0 where
  pub made : after_steps (Some (client_over empty)) steps ≡ Some x
  pub bodies : list_all has_fitting_body (taken_entries steps) ≡ true

-- without what is pending a client's document is that of the entries which it took
abbrev pub ClientsAgree : Type 0
ClientsAgree = (steps : List ClientStep) (x : NaiveClient) → IsRun steps x → sequenced_part x.doc ≡ agreed (taken_entries steps)

-- a client with nothing pending has just that document
abbrev pub IdleClientsAgree : Type 0
IdleClientsAgree = (steps : List ClientStep) (x : NaiveClient) → IsRun steps x → is_without_edits x ≡ true → x.doc ≡ agreed (taken_entries steps)

-- and shows what is to be shown of that document
abbrev pub IdleClientsShow : Type 0
IdleClientsShow = (steps : List ClientStep) (x : NaiveClient) → IsRun steps x → is_without_edits x ≡ true → content x ≡ shown (agreed (taken_entries steps))

-- two clients with nothing pending that took the same entries show the same
abbrev pub TwoClientsShowTheSame : Type 0
TwoClientsShowTheSame = (steps others : List ClientStep) (x y : NaiveClient) → IsRun steps x → IsRun others y → taken_entries steps ≡ taken_entries others
    → is_without_edits x ≡ true → is_without_edits y ≡ true → content x ≡ content y

-- what two documents show of their lists at stage k
pub record HaveSameViews (k : ℕ) (doc after : Document) : Type 0 where
  pub text : stage_view k after.text.items ≡ stage_view k doc.text.items
  pub rows : stage_view k after.rows.items ≡ stage_view k doc.rows.items
  pub cols : stage_view k after.cols.items ≡ stage_view k doc.cols.items

-- a client that comes online sees at each of its stages the same elements as before, also with something pending
abbrev pub ReconnectionKeepsViews : Type 0
ReconnectionKeepsViews = (steps : List ClientStep) (x : NaiveClient) (entry : Entry) (k : ℕ) → IsRun steps x → k ≤ x.last_stage → HaveSameViews k x.doc (come_online x entry).doc

-- and without what is pending its document is still the agreed one, with the numbers of its join
abbrev pub ReconnectionAgrees : Type 0
ReconnectionAgrees = (steps : List ClientStep) (x : NaiveClient) (entry : Entry) → IsRun steps x → sequenced_part (come_online x entry).doc ≡ with_numbers entry (agreed (taken_entries steps))
