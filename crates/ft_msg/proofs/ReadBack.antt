-- A written message or draft is read back.
use Rattle.std.proofs.Common.{◌≡◌, ◌≤◌, ◌∙◌, ℕ, true, false, List, Option, Some, None, Result, Ok, chars, codes, encode_utf8_all, refl, sym, ap, arith}
use Rattle.std.specs.Prelude.{IsTrue, IsFalse, option_and_then}
use Rattle.std.proofs.lemmas.Str.{chars-encodes}
use Rattle.serde_json.specs.Data.{Data, null, string, object, depth}
use Rattle.serde_json.specs.Written.{compact_text}
use Rattle.ft_json.specs.declared.fields.Field.TheVariants.{Address, ClientId, ClientSequenceNumber, Contents, Kind, MinimumSequenceNumber, ReferenceSequenceNumber, SequenceNumber}
use Rattle.ft_json.specs.Fields.{field_name}
use Rattle.ft_json.specs.Reading.{given_field, unless_null}
use Rattle.ft_json.proofs.Back.{read_line-compact_text}
use Rattle.ft_props.specs.Properties.{Characters}
use Rattle.ft_op.specs.declared.operations.ChannelOp.TheVariants.{Text, Grid}
use Rattle.ft_op.specs.declared.operations.TextOp.{TextOp}
use Rattle.ft_op.specs.declared.operations.GridOp.{GridOp}
use Rattle.ft_op.specs.Reading.{◌>>=◌}
use Rattle.ft_op.specs.Representable.{IsRepresentableText, IsText}
use Rattle.ft_op.specs.WellFormed.{IsWellFormedGrid, IsWellFormedText}
use Rattle.ft_op.specs.Written.{written_grid_op, written_text, written_text_op}
use Rattle.ft_op.proofs.ReadFields.{count_is, field_is, found, given_is, num_is, str_is}
use Rattle.ft_op.proofs.ReadGrid.{grid_op_back}
use Rattle.ft_op.proofs.ReadText.{text_op_back}
use Rattle.ft_op.proofs.WrittenFields.{fields}
use Rattle.ft_msg.specs.declared.faults.Cause.{Cause}
use Rattle.ft_msg.specs.declared.messages.Body.{Body}
use Rattle.ft_msg.specs.declared.messages.Body.TheVariants.{Nothing, Op, Elsewhere}
use Rattle.ft_msg.specs.declared.messages.Draft.{Draft}
use Rattle.ft_msg.specs.declared.messages.Message.{Message}
use Rattle.ft_msg.specs.declared.messages.MsgKind.{MsgKind}
use Rattle.ft_msg.specs.declared.messages.MsgKind.TheVariants as kind
use Rattle.ft_msg.specs.MessageGrammar.{body_for, body_of, contents_body, draft, draft_body, draft_of, grid_body, kind_of, message, message_of, needed_body, op_body, sender_of, text_body}
use Rattle.ft_msg.specs.Representable.{IsRepresentableBody, IsRepresentableKind, IsRepresentableMessage, IsRepresentableSender}
use Rattle.ft_msg.specs.WellFormed.{has_body, HasItsParts, IsWellFormedBody, IsWellFormedDraft, IsWellFormedKind, IsWellFormedMessage}
use Rattle.ft_msg.specs.Written.{written_body, written_draft, written_draft_kind, written_kind, written_message, written_sender}
use Rattle.ft_msg.proofs.CanonicalMessages.{canonical_draft, canonical_message, contents_fields, draft_fields, draft_levels, message_fields, message_levels}
use Rattle.ft_msg.proofs.Words.{body_for-grid, body_for-text, kind_of-join, kind_of-leave, kind_of-noop, kind_of-op}

-- ---- contents

contents_for : (address : List ℕ) (contents : Data) (body : Body) → body_for (object (fields (contents_fields (string address) contents))) (chars address) ≡ Ok body
    → contents_body (object (fields (contents_fields (string address) contents))) ≡ Ok body
unfolding contents_body field_name
contents_for address contents body h = rw (field_is (contents_fields (string address) contents) Address (Some (string address)) refl, h)

text_contents : (op : TextOp) → IsRepresentableText op → IsWellFormedText op → contents_body (written_body (Op (Text op))) ≡ Ok (Op (Text op))
unfolding text_body field_name
text_contents op r h =
    let fs = contents_fields (string (codes "text")) (written_text_op op) in
    contents_for (codes "text") (written_text_op op) _ (
    body_for-text (object (fields fs)) (codes "text") refl
    ∙ ap (needed_body text_body) (field_is fs Contents (Some (written_text_op op)) refl)
    ∙ rw (text_op_back op r h)
    )

grid_contents : (op : GridOp) → IsWellFormedGrid op → contents_body (written_body (Op (Grid op))) ≡ Ok (Op (Grid op))
unfolding grid_body field_name
grid_contents op h =
    let fs = contents_fields (string (codes "grid")) (written_grid_op op) in
    contents_for (codes "grid") (written_grid_op op) _ (
    body_for-grid (object (fields fs)) (codes "grid") refl
    ∙ ap (needed_body grid_body) (field_is fs Contents (Some (written_grid_op op)) refl)
    ∙ rw (grid_op_back op h)
    )

other_contents : (address : Characters) → IsText address → IsWellFormedBody (Elsewhere address) → contents_body (written_body (Elsewhere address)) ≡ Ok (Elsewhere address)
other_contents address r h =
    let d = object (fields (contents_fields (written_text address) null)) in
    let other : body_for d address ≡ Ok (Elsewhere address) = rw (h.0, h.1) in
    contents_for (encode_utf8_all address) null _ (ap (body_for d) (chars-encodes address r) ∙ other)

contents_back : (body : Body) → IsRepresentableBody body → IsWellFormedBody body → IsTrue (has_body body) → contents_body (written_body body) ≡ Ok body
contents_back Nothing r h given = (cc)
contents_back (Op (Text op)) r h given = text_contents op r h
contents_back (Op (Grid op)) r h given = grid_contents op h
contents_back (Elsewhere address) r h given = other_contents address r h

op_body_back : (fs : List (List ℕ × Option Data)) (body : Body) → found (field_name Contents) fs ≡ Some (written_body body) → IsRepresentableBody body → IsWellFormedBody body → IsTrue (has_body body)
    → op_body (object (fields fs)) ≡ Ok body
unfolding op_body
op_body_back fs body e r h given = rw (field_is fs Contents (Some (written_body body)) e, contents_back body r h given)

-- ---- kinds and senders

-- the bytes of the word of a kind
abbrev word_bytes : MsgKind → List ℕ
word_bytes kind.Op = codes "op"
word_bytes kind.Join = codes "join"
word_bytes kind.Leave = codes "leave"
word_bytes kind.Noop = codes "noop"
word_bytes (kind.Other word) = encode_utf8_all word

word_written : (k : MsgKind) → written_kind k ≡ string (word_bytes k)
word_written kind.Op = refl
word_written kind.Join = refl
word_written kind.Leave = refl
word_written kind.Noop = refl
word_written (kind.Other word) = refl

other_kind : (word : Characters) → IsWellFormedKind (kind.Other word) → kind_of word ≡ kind.Other word
other_kind word h = rw (h.0, h.1, h.2, h.3)

kind_back : (k : MsgKind) → IsRepresentableKind k → IsWellFormedKind k → kind_of (chars (word_bytes k)) ≡ k
kind_back kind.Op r h = sym (kind_of-op (codes "op") refl)
kind_back kind.Join r h = sym (kind_of-join (codes "join") refl)
kind_back kind.Leave r h = sym (kind_of-leave (codes "leave") refl)
kind_back kind.Noop r h = sym (kind_of-noop (codes "noop") refl)
kind_back (kind.Other word) r h = ap kind_of (chars-encodes word r) ∙ other_kind word h

named : (k : MsgKind) (name : Characters) → IsText name → sender_of k (Some (written_text name)) ≡ Ok (Some name)
named k name h = ap (λ n. Ok (Some n)) (chars-encodes name h)

sender_back : (k : MsgKind) (sender : Option Characters) (body : Body) → IsRepresentableSender sender → HasItsParts k sender body → sender_of k (option_and_then unless_null (Some (written_sender sender))) ≡ Ok sender
sender_back k (Some name) body r h = named k name r
sender_back kind.Op None body r h = let absent : false ≡ true = h.0 in cc
sender_back kind.Join None body r h = refl
sender_back kind.Leave None body r h = refl
sender_back kind.Noop None body r h = refl
sender_back (kind.Other word) None body r h = refl

no_body : (body : Body) → IsFalse (has_body body) → Nothing ≡ body
no_body Nothing h = refl
no_body (Op op) h = (cc)
no_body (Elsewhere address) h = (cc)

body_back : (m : Message) (k : MsgKind) → IsRepresentableBody m.body → IsWellFormedBody m.body → HasItsParts k m.client_id m.body → body_of k (written_message m) ≡ Ok m.body
unfolding field_name
body_back m kind.Op r h parts = op_body_back (message_fields m) m.body refl r h parts.1
body_back m kind.Join r h parts = ap Ok (no_body m.body parts)
body_back m kind.Leave r h parts = ap Ok (no_body m.body parts)
body_back m kind.Noop r h parts = ap Ok (no_body m.body parts)
body_back m (kind.Other word) r h parts = ap Ok (no_body m.body parts)

-- ---- messages

-- what is read behind the numbers of a message
abbrev behind_numbers : Message → Data → MsgKind → Result Message Cause
behind_numbers m d k = do
  sender ← sender_of k (given_field d ClientId)
  body ← body_of k d
  Ok (record { client_id = sender; seq = m.seq; min = m.min; client_seq = m.client_seq; ref_seq = m.ref_seq; kind = k; body = body })

numbers_back : (m : Message) → IsWellFormedMessage m → message_of (written_message m) ≡ behind_numbers m (written_message m) (kind_of (chars (word_bytes m.kind)))
unfolding message_of field_name
numbers_back m h =
    let fs = message_fields m in
    rw (
      count_is fs SequenceNumber m.seq refl h.seq,
      count_is fs MinimumSequenceNumber m.min refl h.min,
      num_is fs ClientSequenceNumber m.client_seq refl h.client_seq,
      num_is fs ReferenceSequenceNumber m.ref_seq refl h.ref_seq,
      str_is fs Kind (word_bytes m.kind) (ap Some (word_written m.kind)),
    )

sender_of_message : (m : Message) → IsRepresentableMessage m → IsWellFormedMessage m → sender_of m.kind (given_field (written_message m) ClientId) ≡ Ok m.client_id
unfolding field_name
sender_of_message m r h =
    ap (sender_of m.kind) (given_is (message_fields m) ClientId (Some (written_sender m.client_id)) refl) ∙ sender_back m.kind m.client_id m.body r.sender h.parts

parts_back : (m : Message) → IsRepresentableMessage m → IsWellFormedMessage m → behind_numbers m (written_message m) m.kind ≡ Ok m
parts_back m r h = rw (sender_of_message m r h, body_back m m.kind r.body h.body h.parts)

pub message_of_back : (m : Message) → IsRepresentableMessage m → IsWellFormedMessage m → message_of (written_message m) ≡ Ok m
message_of_back m r h = numbers_back m h ∙ ap (behind_numbers m (written_message m)) (kind_back m.kind r.kind h.kind) ∙ parts_back m r h

pub message_back : (m : Message) → IsRepresentableMessage m → IsWellFormedMessage m → message (compact_text (written_message m)) ≡ Ok m
unfolding message
message_back m r h =
    let shallow : depth (written_message m) ≤ 127 = omega (arith, message_levels m h) in
    rw (read_line-compact_text (written_message m) (canonical_message m r h) shallow, message_of_back m r h)

-- ---- drafts

-- the bytes of the word of the type of a draft with this body
abbrev draft_bytes : Body → List ℕ
draft_bytes Nothing = codes "noop"
draft_bytes (Op op) = codes "op"
draft_bytes (Elsewhere address) = codes "op"

draft_word_written : (body : Body) → written_draft_kind body ≡ string (draft_bytes body)
draft_word_written Nothing = refl
draft_word_written (Op op) = refl
draft_word_written (Elsewhere address) = refl

draft_body_back : (fs : List (List ℕ × Option Data)) (body : Body) → found (field_name Contents) fs ≡ Some (written_body body) → IsRepresentableBody body → IsWellFormedBody body
    → draft_body (object (fields fs)) (draft_bytes body) ≡ Ok body
draft_body_back fs Nothing e r h = refl
draft_body_back fs (Op op) e r h = op_body_back fs (Op op) e r h refl
draft_body_back fs (Elsewhere address) e r h = op_body_back fs (Elsewhere address) e r h refl

pub draft_of_back : (d : Draft) → IsRepresentableBody d.body → IsWellFormedDraft d → draft_of (written_draft d) ≡ Ok d
unfolding draft_of field_name
draft_of_back d r h =
    let fs = draft_fields d in
    rw (
      count_is fs ClientSequenceNumber d.client_seq refl h.client_seq,
      count_is fs ReferenceSequenceNumber d.ref_seq refl h.ref_seq,
      str_is fs Kind (draft_bytes d.body) (ap Some (draft_word_written d.body)),
      draft_body_back fs d.body refl r h.body,
    )

pub draft_back : (d : Draft) → IsRepresentableBody d.body → IsWellFormedDraft d → draft (compact_text (written_draft d)) ≡ Ok d
unfolding draft
draft_back d r h =
    let shallow : depth (written_draft d) ≤ 127 = omega (arith, draft_levels d h) in
    rw (read_line-compact_text (written_draft d) (canonical_draft d r h) shallow, draft_of_back d r h)
