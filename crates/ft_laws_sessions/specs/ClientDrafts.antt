-- One client alone: what its steps cost, and that the drafts which it has to send are well formed.
use Rattle.std.specs.Prelude.{◌≡◌, ℕ, ◌+◌, ◌≤◌, ◌<◌, ◌^◌, true, List, [], ◌∷◌, Some, ⊤}
use Rattle.ft_base.specs.Scan.{len}
use Rattle.ft_props.specs.Element.{ListElement}
use Rattle.ft_op.specs.Document.{Document}
use Rattle.ft_op.specs.WellFormed.{IsWellFormed}
use Rattle.ft_msg.specs.Client.{NaiveClient, client_over}
use Rattle.ft_msg.specs.ClientSteps.{ClientStep, Edits, Idles, Takes, after_steps}
use Rattle.ft_msg.specs.Reached.{IsStart}
use Rattle.ft_msg.specs.WellFormed.{IsWellFormedDraft, IsWellFormedMessage}
use Rattle.ft_seqr.specs.World.{body_load, op_load}
use Rattle.ft_laws_agreement.specs.Sequencing.{Each}

-- what a step costs: one for an edit, a noop or a message, and what its operation adds to a load
abbrev pub step_cost : ClientStep → ℕ
step_cost (Edits op) = 1 + op_load op
step_cost Idles = 1
step_cost (Takes entry) = 1 + body_load entry.msg.body
step_cost _ = 0

abbrev pub steps_cost : List ClientStep → ℕ
steps_cost [] = 0
steps_cost (step ∷ steps) = step_cost step + steps_cost steps

-- how many elements there are
abbrev pub element_count : List ListElement → ℕ
element_count items = len (λ e. true) items

-- what a document costs with which a client starts: one for each message and for each element in its lists
abbrev pub start_cost : Document → ℕ
start_cost doc = doc.number + (element_count doc.text.items + (element_count doc.rows.items + element_count doc.cols.items))

-- the operation or the message of a step is well formed
abbrev pub IsFormedStep : ClientStep → Type 0
IsFormedStep (Edits op) = IsWellFormed op
IsFormedStep (Takes entry) = IsWellFormedMessage entry.msg
IsFormedStep _ = ⊤

-- a client that such steps make from a start on, which cost at most this with it
pub record IsMadeAlone (load : ℕ) (x : NaiveClient) : Type 0 where
  pub start : Document
  pub starts : IsStart start
  pub steps : List ClientStep
  pub made : after_steps (Some (client_over start)) steps ≡ Some x
  pub formed : Each IsFormedStep steps
  pub cost : start_cost start + steps_cost steps ≤ load

-- what such a client has to send is well formed, where the load is below 2^53
abbrev pub DraftsOfClientsAreFormed : Type 0
DraftsOfClientsAreFormed = (load : ℕ) (x : NaiveClient) → IsMadeAlone load x → load < 2 ^ 53 → Each IsWellFormedDraft x.queue
