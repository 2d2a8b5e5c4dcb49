-- What the log will show of a client once its pending operations are sequenced next, with nobody between. The theorem
-- of views compares it with what the client shows now.
use Rattle.std.specs.Prelude.{ℕ, ◌+◌, List, [], ◌∷◌, None, take, pos}
use Rattle.ft_op.specs.declared.operations.ChannelOp.{ChannelOp}
use Rattle.ft_msg.specs.declared.messages.Entry.{Entry}
use Rattle.ft_msg.specs.declared.messages.MsgKind.TheVariants as kind
use Rattle.ft_msg.specs.declared.messages.Body.TheVariants as body
use Rattle.ft_msg.specs.Agreed.{agreed, take_entries}
use Rattle.ft_msg.specs.Client.{NaiveClient}
use Rattle.ft_msg.specs.Content.{ViewContent, shown}
use Rattle.ft_msg.specs.Reconnection.{regenerated}

-- operations as entries with numbers from s on, by a connection that had seen the numbers up to r
abbrev pub numbered : ℕ → ℕ → ℕ → ℕ → List ChannelOp → List Entry
numbered s r min conn [] = []
numbered s r min conn (op ∷ ops) =
    record { msg = record { client_id = None; seq = s; min = min; client_seq = pos 0; ref_seq = pos r; kind = kind.Op; body = body.Op op }; origin = conn }
    ∷ numbered (s + 1) r min conn ops

-- what is shown of the entries that the client has processed, with its pending operations as they would be sent again
-- sequenced after them by a connection that is in no entry
abbrev pub applied : NaiveClient → List Entry → ℕ → ViewContent
applied x log conn =
    shown (take_entries (agreed (take x.doc.number log)) (numbered (x.doc.number + 1) x.doc.number x.doc.minimum conn (regenerated x)))
