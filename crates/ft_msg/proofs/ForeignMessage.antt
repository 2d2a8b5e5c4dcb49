-- A message of another client acts on a client's document as on the document of the messages alone.
use Rattle.std.proofs.Common.{◌≡◌, ℕ, refl, ap}
use Rattle.ft_msg.specs.declared.messages.Entry.{Entry}
use Rattle.ft_msg.specs.declared.messages.Body.{Body}
use Rattle.ft_msg.specs.declared.messages.Body.TheVariants.{Nothing, Op, Elsewhere}
use Rattle.ft_op.proofs.ForeignEffect.{effects-sequenced}
use Rattle.ft_op.specs.Operation.{sub_operations}
use Rattle.ft_op.specs.Document.{Document, sequenced_part}
use Rattle.ft_msg.specs.Agreed.{body_effect, take_entry, with_numbers, reference_number}

body-sequenced : (doc : Document) (s c r : ℕ) (body : Body) → sequenced_part (body_effect doc s c r body) ≡ body_effect (sequenced_part doc) s c r body
body-sequenced doc s c r Nothing = refl
body-sequenced doc s c r (Op op) = effects-sequenced doc s c r (sub_operations op)
body-sequenced doc s c r (Elsewhere address) = refl

-- a foreign message acts on the sequenced part as on a document of the messages alone
pub take_entry-sequenced : (doc : Document) (entry : Entry) → sequenced_part (take_entry doc entry) ≡ take_entry (sequenced_part doc) entry
take_entry-sequenced doc entry = ap (with_numbers entry) (body-sequenced doc entry.msg.seq entry.origin (reference_number entry.msg.ref_seq) entry.msg.body)
