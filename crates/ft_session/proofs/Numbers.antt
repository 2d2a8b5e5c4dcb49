-- A client's number after its steps.
use Rattle.std.proofs.Common.{◌≡◌, ℕ, ◌+◌, [], ◌∷◌, length, Some, Ok, ap, arith}
use Rattle.ft_op.specs.declared.operations.ChannelOp.{ChannelOp}
use Rattle.ft_msg.specs.declared.messages.Entry.{Entry}
use Rattle.ft_msg.specs.Client.{NaiveClient, connect, drop_link, local_edit, noop}
use Rattle.ft_msg.specs.ClientSteps.{ClientStep, Connects, Drops, Edits, Idles, Takes, after_step, after_steps, taken_entries, unless_refused}
use Rattle.ft_msg.specs.Process.{process}
use Rattle.ft_laws_agreement.proofs.CountedEntries.{steps-counted}

one-step : (step : ClientStep) (x y : NaiveClient) → after_step x step ≡ Some y → y.doc.number ≡ x.doc.number + length (taken_entries (step ∷ []))
one-step step x y h = steps-counted (step ∷ []) x y (ap (λ o. after_steps o []) h)

pub edit-number : (op : ChannelOp) (x y : NaiveClient) → local_edit x op ≡ Ok y → y.doc.number ≡ x.doc.number
edit-number op x y h = let n = one-step (Edits op) x y (ap unless_refused h) in omega (arith, n)

pub connect-number : (conn : ℕ) (x y : NaiveClient) → connect x conn ≡ Ok y → y.doc.number ≡ x.doc.number
connect-number conn x y h = let n = one-step (Connects conn) x y (ap unless_refused h) in omega (arith, n)

pub drop-number : (x y : NaiveClient) → drop_link x ≡ Ok y → y.doc.number ≡ x.doc.number
drop-number x y h = let n = one-step Drops x y (ap unless_refused h) in omega (arith, n)

pub noop-number : (x y : NaiveClient) → noop x ≡ Ok y → y.doc.number ≡ x.doc.number
noop-number x y h = let n = one-step Idles x y (ap unless_refused h) in omega (arith, n)

pub process-number : (entry : Entry) (x y : NaiveClient) → process x entry ≡ Ok y → y.doc.number ≡ x.doc.number + 1
process-number entry x y h = one-step (Takes entry) x y (ap unless_refused h)
