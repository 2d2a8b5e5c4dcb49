-- The steps of one client, from the empty document on.
use Rattle.std.specs.Prelude.{ℕ, Bool, true, false, cond, not, List, [], ◌∷◌, Option, Some, None, Result, Ok, Err, drop}
use Rattle.ft_op.specs.declared.operations.ChannelOp.{ChannelOp}
use Rattle.ft_msg.specs.declared.messages.Entry.{Entry}
use Rattle.ft_msg.specs.Client.{NaiveClient, PendingEdit, client_over, connect, drop_link, local_edit, noop}
use Rattle.ft_msg.specs.WellFormed.{has_body}
use Rattle.ft_msg.specs.Process.{is_op_kind, process}

-- an edit of its own; a connection; its loss; a noop; its first draft goes to the sequencer; a new client starts from its
-- document and goes on in its place; it takes the next entry
pub data ClientStep : Type 0 where
  Edits : ChannelOp → ClientStep
  Connects : ℕ → ClientStep
  Drops : ClientStep
  Idles : ClientStep
  Sends : ClientStep
  Restarts : ClientStep
  Takes : Entry → ClientStep

-- the value, if there is no fault
abbrev pub unless_refused : {A E : Type 0} → Result A E → Option A
unless_refused (Ok x) = Some x
unless_refused (Err fault) = None

-- whether there is no edit
abbrev pub is_none_pending : List PendingEdit → Bool
is_none_pending [] = true
is_none_pending (edit ∷ edits) = false

-- whether nothing is pending
abbrev pub is_without_edits : NaiveClient → Bool
is_without_edits x = is_none_pending x.pending

-- the client after a step, unless it refuses it
abbrev pub after_step : NaiveClient → ClientStep → Option NaiveClient
after_step x (Edits op) = unless_refused (local_edit x op)
after_step x (Connects conn) = unless_refused (connect x conn)
after_step x Drops = unless_refused (drop_link x)
after_step x Idles = unless_refused (noop x)
after_step x Sends = Some (record x { queue = drop 1 x.queue })
after_step x Restarts = cond (is_without_edits x) (Some (client_over x.doc)) None
after_step x (Takes entry) = unless_refused (process x entry)

-- the client after steps, where it refuses none
abbrev pub after_steps : Option NaiveClient → List ClientStep → Option NaiveClient
after_steps None steps = None
after_steps (Some x) [] = Some x
after_steps (Some x) (step ∷ steps) = after_steps (after_step x step) steps

-- the entries that it took
abbrev pub taken_entries : List ClientStep → List Entry
taken_entries [] = []
taken_entries (Takes entry ∷ steps) = entry ∷ taken_entries steps
taken_entries (Edits op ∷ steps) = taken_entries steps
taken_entries (Connects conn ∷ steps) = taken_entries steps
taken_entries (Drops ∷ steps) = taken_entries steps
taken_entries (Idles ∷ steps) = taken_entries steps
taken_entries (Sends ∷ steps) = taken_entries steps
taken_entries (Restarts ∷ steps) = taken_entries steps

-- whether a message has a body just where it is of type op
abbrev pub has_fitting_body : Entry → Bool
has_fitting_body entry = cond (is_op_kind entry.msg.kind) (has_body entry.msg.body) (not (has_body entry.msg.body))
