-- What is known of a message and a draft that were read.
use Rattle.std.proofs.Common.{◌≡◌, Bool, true, false, cond, List, ℕ, Option, Some, None, Result, Ok, refl, sym, subst, chars, codes, bytes_eq}
use Rattle.std.specs.Prelude.{IsTrue, IsFalse, is_some}
use Rattle.serde_json.specs.Data.{Data}
use Rattle.serde_json.specs.Find.{as_str}
use Rattle.ft_json.specs.declared.fields.Field.TheVariants.{Address, ClientId, ClientSequenceNumber, Contents, Kind, MinimumSequenceNumber, ReferenceSequenceNumber, SequenceNumber}
use Rattle.ft_json.specs.Reading.{count_field, field, given_field, num_field, str_field}
use Rattle.ft_json.proofs.Counts.{count_field-below}
use Rattle.ft_op.specs.declared.operations.ChannelOp.TheVariants.{Text, Grid}
use Rattle.ft_op.specs.Reading.{is_object}
use Rattle.ft_op.specs.TextGrammar.{text_op}
use Rattle.ft_op.specs.GridGrammar.{grid_op}
use Rattle.ft_op.specs.WellFormed.{is_count}
use Rattle.ft_op.proofs.ReadNumbers.{count_field-is_count, either_way, num_field-in_range}
use Rattle.ft_op.proofs.ReadSteps.{fault_step, read_step, same_value, test_held}
use Rattle.ft_msg.specs.declared.faults.Cause.{Cause}
use Rattle.ft_msg.specs.declared.messages.Body.{Body}
use Rattle.ft_msg.specs.declared.messages.Body.TheVariants.{Nothing, Op, Elsewhere}
use Rattle.ft_msg.specs.declared.messages.Draft.{Draft}
use Rattle.ft_msg.specs.declared.messages.Message.{Message}
use Rattle.ft_msg.specs.declared.messages.MsgKind.{MsgKind}
use Rattle.ft_msg.specs.declared.messages.MsgKind.TheVariants as kinds
use Rattle.ft_msg.specs.MessageGrammar.{addressed, body_for, body_of, contents_body, contents_with, draft_body, draft_of, grid_body, kind_of, message_of, named_sender, needed_body, op_body, sender_of, text_body}
use Rattle.ft_msg.specs.WellFormed.{has_body, HasItsParts, HasNumbersInRange, IsWellFormedBody, IsWellFormedDraft, IsWellFormedKind, IsWellFormedMessage}

-- ---- an operation has a body

abbrev IsThere : Body → Type 0
IsThere body = IsTrue (has_body body)

text_body-there : (d : Data) (body : Body) → text_body d ≡ Ok body → IsThere body
unfolding text_body
text_body-there d body e = let op = fault_step _ (text_op d) _ body e in subst IsThere (same_value (Op (Text op.0)) body _ refl op.2) refl

grid_body-there : (d : Data) (body : Body) → grid_body d ≡ Ok body → IsThere body
unfolding grid_body
grid_body-there d body e = let op = fault_step _ (grid_op d) _ body e in subst IsThere (same_value (Op (Grid op.0)) body _ refl op.2) refl

needed_text-there : (o : Option Data) (body : Body) → needed_body text_body o ≡ Ok body → IsThere body
needed_text-there None body e = (cc)
needed_text-there (Some d) body e = text_body-there d body e

needed_grid-there : (o : Option Data) (body : Body) → needed_body grid_body o ≡ Ok body → IsThere body
needed_grid-there None body e = (cc)
needed_grid-there (Some d) body e = grid_body-there d body e

body_for-there : (d : Data) (address : List ℕ) (body : Body) → body_for d address ≡ Ok body → IsThere body
body_for-there d address body e =
    either_way IsThere (bytes_eq address (codes "text")) _ _ body (needed_text-there (field d Contents) body)
    (either_way IsThere (bytes_eq address (codes "grid")) _ _ body (needed_grid-there (field d Contents) body) (λ h. subst IsThere (same_value (Elsewhere address) body _ refl h) refl)) e

addressed-there : (d : Data) (o : Option (List ℕ)) (body : Body) → addressed d o ≡ Ok body → IsThere body
addressed-there d None body e = (cc)
addressed-there d (Some text) body e = body_for-there d (chars text) body e

contents_with-there : (d : Data) (o : Option Data) (body : Body) → contents_with d o ≡ Ok body → IsThere body
contents_with-there d None body e = text_body-there d body e
contents_with-there d (Some address) body e = addressed-there d (as_str address) body e

contents_body-there : (d : Data) (body : Body) → contents_body d ≡ Ok body → IsThere body
unfolding contents_body
contents_body-there d body e = contents_with-there d (field d Address) body (test_held (is_object d) _ _ body e).1

needed_contents-there : (o : Option Data) (body : Body) → needed_body contents_body o ≡ Ok body → IsThere body
needed_contents-there None body e = (cc)
needed_contents-there (Some d) body e = contents_body-there d body e

op_body-there : (d : Data) (body : Body) → op_body d ≡ Ok body → IsThere body
unfolding op_body
op_body-there d body e = needed_contents-there (field d Contents) body e

-- ---- the parts of a message

sender_string : (o : Option (List ℕ)) (sender : Option (List ℕ)) → named_sender o ≡ Ok sender → IsTrue (is_some sender)
sender_string None sender e = (cc)
sender_string (Some text) sender e = subst (λ s. IsTrue (is_some s)) (same_value (Some (chars text)) sender _ refl e) refl

op_sender : (o : Option Data) (sender : Option (List ℕ)) → sender_of kinds.Op o ≡ Ok sender → IsTrue (is_some sender)
op_sender None sender e = (cc)
op_sender (Some d) sender e = sender_string (as_str d) sender e

nothing_there : (body : Body) (r : Result Body Cause) → r ≡ Ok Nothing → r ≡ Ok body → IsFalse (has_body body)
nothing_there body r e f = subst (λ b. IsFalse (has_body b)) (same_value Nothing body r e f) refl

parts_of : (kind : MsgKind) (o : Option Data) (sender : Option (List ℕ)) (d : Data) (body : Body) → sender_of kind o ≡ Ok sender → body_of kind d ≡ Ok body → HasItsParts kind sender body
parts_of kinds.Op o sender d body e f = (op_sender o sender e, op_body-there d body f)
parts_of kinds.Join o sender d body e f = nothing_there body _ refl f
parts_of kinds.Leave o sender d body e f = nothing_there body _ refl f
parts_of kinds.Noop o sender d body e f = nothing_there body _ refl f
parts_of (kinds.Other word) o sender d body e f = nothing_there body _ refl f

kind_or_other : (b : Bool) (k l : MsgKind) → IsWellFormedKind k → (b ≡ false → IsWellFormedKind l) → IsWellFormedKind (cond b k l)
kind_or_other true k l h f = h
kind_or_other false k l h f = f refl

kind_of-formed : (word : List ℕ) → IsWellFormedKind (kind_of word)
kind_of-formed word =
    kind_or_other (bytes_eq word (codes "op")) kinds.Op _ tt (λ op.
    kind_or_other (bytes_eq word (codes "join")) kinds.Join _ tt (λ join.
    kind_or_other (bytes_eq word (codes "leave")) kinds.Leave _ tt (λ leave.
    kind_or_other (bytes_eq word (codes "noop")) kinds.Noop (kinds.Other word) tt (λ noop. (op, join, leave, noop)))))

-- ---- messages

-- what the fields of the value of a message say of the message
pub record HasFields (d : Data) (m : Message) : Type 0 where
  pub seq : count_field d SequenceNumber ≡ Ok m.seq
  pub min : count_field d MinimumSequenceNumber ≡ Ok m.min
  pub client_seq : num_field d ClientSequenceNumber ≡ Ok m.client_seq
  pub ref_seq : num_field d ReferenceSequenceNumber ≡ Ok m.ref_seq
  pub word : List ℕ
  pub kind : m.kind ≡ kind_of (chars word)
  pub sender : sender_of m.kind (given_field d ClientId) ≡ Ok m.client_id
  pub body : body_of m.kind d ≡ Ok m.body

pub message_of-fields : (d : Data) (m : Message) → message_of d ≡ Ok m → HasFields d m
unfolding message_of
message_of-fields d m e =
    let seq = fault_step _ (count_field d SequenceNumber) _ m (test_held (is_object d) _ _ m e).1 in
    let min = fault_step _ (count_field d MinimumSequenceNumber) _ m seq.2 in
    let client_seq = fault_step _ (num_field d ClientSequenceNumber) _ m min.2 in
    let ref_seq = fault_step _ (num_field d ReferenceSequenceNumber) _ m client_seq.2 in
    let word = fault_step _ (str_field d Kind) _ m ref_seq.2 in
    let kind = kind_of (chars word.0) in
    let sender = read_step (sender_of kind (given_field d ClientId)) _ m word.2 in
    let body = read_step (body_of kind d) _ m sender.2 in
    subst (HasFields d) (same_value _ m _ refl body.2)
    (record {
      seq = seq.1;
      min = min.1;
      client_seq = client_seq.1;
      ref_seq = ref_seq.1;
      word = word.0;
      kind = refl;
      sender = sender.1;
      body = body.1;
    })

pub message_of-in_range : (d : Data) (m : Message) → message_of d ≡ Ok m → HasNumbersInRange m
message_of-in_range d m e =
    let fields = message_of-fields d m e in
    record {
      seq = count_field-below d SequenceNumber m.seq fields.seq;
      min = count_field-below d MinimumSequenceNumber m.min fields.min;
    }

-- a message that was read is well formed where its body is
pub message_of-formed : (d : Data) (m : Message) → message_of d ≡ Ok m → IsWellFormedBody m.body → IsWellFormedMessage m
message_of-formed d m e h =
    let fields = message_of-fields d m e in
    record {
      seq = count_field-is_count d SequenceNumber m.seq fields.seq;
      min = count_field-is_count d MinimumSequenceNumber m.min fields.min;
      client_seq = num_field-in_range d ClientSequenceNumber m.client_seq fields.client_seq;
      ref_seq = num_field-in_range d ReferenceSequenceNumber m.ref_seq fields.ref_seq;
      kind = subst IsWellFormedKind (sym fields.kind) (kind_of-formed (chars fields.word));
      parts = parts_of m.kind (given_field d ClientId) m.client_id d m.body fields.sender fields.body;
      body = h;
    }

-- ---- drafts

-- a draft that was read is well formed where its body is
pub draft_of-formed : (d : Data) (r : Draft) → draft_of d ≡ Ok r → IsWellFormedBody r.body → IsWellFormedDraft r
unfolding draft_of
draft_of-formed d r e h =
    let client_seq = fault_step _ (count_field d ClientSequenceNumber) _ r (test_held (is_object d) _ _ r e).1 in
    let ref_seq = fault_step _ (count_field d ReferenceSequenceNumber) _ r client_seq.2 in
    let word = fault_step _ (str_field d Kind) _ r ref_seq.2 in
    let body = read_step (draft_body d word.0) _ r word.2 in
    let same = same_value (record { client_seq = client_seq.0; ref_seq = ref_seq.0; body = body.0 }) r _ refl body.2 in
    record {
      client_seq = subst (λ (x : Draft). IsTrue (is_count x.client_seq)) same (count_field-is_count d ClientSequenceNumber client_seq.0 client_seq.1);
      ref_seq = subst (λ (x : Draft). IsTrue (is_count x.ref_seq)) same (count_field-is_count d ReferenceSequenceNumber ref_seq.0 ref_seq.1);
      body = h;
    }
