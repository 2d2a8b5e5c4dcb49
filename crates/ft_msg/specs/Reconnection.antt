-- How a client comes back under a new connection: its pending edits are sent again as operations on what it sees now,
-- and its lists are rebuilt so that they agree with what the log will make of these.
use Rattle.std.specs.Prelude.{ℕ, ◌+◌, List, [], ◌∷◌, Option, Some, None, map, flat_map, filter_map, length}
use Rattle.ft_op.specs.declared.operations.ChannelOp.{ChannelOp}
use Rattle.ft_msg.specs.declared.messages.Draft.{Draft}
use Rattle.ft_msg.specs.declared.messages.Body.TheVariants.{Op}
use Rattle.ft_msg.specs.declared.views.Link.TheVariants.{Online}
use Rattle.ft_props.specs.Steps.{rebuilt_list}
use Rattle.ft_op.specs.Operation.{OnIntervals}
use Rattle.ft_op.specs.Intervals.{settle_elements}
use Rattle.ft_op.specs.Document.{Document}
use Rattle.ft_op.specs.Stages.{Stage}
use Rattle.ft_msg.specs.Client.{NaiveClient, PendingEdit, stages_of}
use Rattle.ft_op.specs.Pieces.{op_of, pieces}

-- the operation by which a pending edit is sent again, none where it has no piece
abbrev pub regenerated_edit : Document → PendingEdit → Option ChannelOp
regenerated_edit doc edit = op_of (flat_map (pieces doc) edit.stages)

-- the operations by which the pending edits are sent again, in order
abbrev pub regenerated : NaiveClient → List ChannelOp
regenerated x = filter_map (regenerated_edit x.doc) x.pending

-- the document with the pending stages put in afresh in each list
abbrev pub rebuilt_document : List ℕ → Document → Document
rebuilt_document stages doc =
    record doc { text = rebuilt_list stages doc.text; rows = rebuilt_list stages doc.rows; cols = rebuilt_list stages doc.cols }

-- a stage as it goes on: gone without a piece; an interval operation with its ends settled
abbrev pub carried_stage : Document → Stage → List Stage
carried_stage doc t = elim t.sub_operation [
  | OnIntervals op ↦ record t { names = settle_elements doc.text.items t.stage t.names } ∷ []
  | _ ↦ elim (pieces doc t) [ [] ↦ [] | _ ∷ _ ↦ t ∷ [] ]
]

-- the edit as it is sent again under the connection as its n-th message
abbrev pub resubmitted_edit : Document → ℕ → ℕ → PendingEdit → ChannelOp → PendingEdit
resubmitted_edit doc conn n edit op = record {
  stages = flat_map (carried_stage doc) edit.stages;
  ref_seq = doc.number;
  sent = Some (record { conn = conn; client_seq = n; op = op });
}

-- the edits that have a piece as they are sent again, numbered from n on
abbrev pub resubmitted_edits : Document → ℕ → ℕ → List PendingEdit → List PendingEdit
resubmitted_edits doc conn n [] = []
resubmitted_edits doc conn n (edit ∷ edits) = elim (regenerated_edit doc edit) [
  | None ↦ resubmitted_edits doc conn n edits
  | Some op ↦ resubmitted_edit doc conn n edit op ∷ resubmitted_edits doc conn (n + 1) edits
]

-- the draft of a sent edit
abbrev pub sent_draft : ℕ → PendingEdit → List Draft
sent_draft ref_seq edit = elim edit.sent [ None ↦ [] | Some sent ↦ record { client_seq = sent.client_seq; ref_seq = ref_seq; body = Op sent.op } ∷ [] ]

-- the client when it comes online under the connection
abbrev pub rebuilt : ℕ → NaiveClient → NaiveClient
rebuilt conn x =
    let edits = resubmitted_edits x.doc conn 1 x.pending in
    record x {
      doc = rebuilt_document (map (λ t. t.stage) (stages_of x)) x.doc;
      link = Online conn;
      next_client_seq = length edits + 1;
      queue = flat_map (sent_draft x.doc.number) edits;
      pending = edits;
    }
