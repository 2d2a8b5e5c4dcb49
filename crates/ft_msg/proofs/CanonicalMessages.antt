-- The value that a well-formed message or draft is written as is canonical, and has few enough levels to be read again.
use Rattle.std.proofs.Common.{◌≡◌, ◌≤◌, ◌^◌, ◌-◌, ℕ, ℤ, pos, negsuc, true, not, List, [], ◌∷◌, Option, Some, None, codes, refl, arith, nat_lt}
use Rattle.std.specs.Prelude.{IsTrue, int_lt}
use Rattle.std.proofs.lemmas.Bool.Decides.{nat_tests}
use Rattle.serde_json.specs.Data.{Data, null, depth}
use Rattle.ft_base.proofs.Booleans.{both}
use Rattle.ft_json.specs.Canonical.{IsCanonical}
use Rattle.ft_props.specs.Properties.{Characters}
use Rattle.ft_op.specs.declared.operations.ChannelOp.{ChannelOp}
use Rattle.ft_op.specs.declared.operations.ChannelOp.TheVariants.{Text, Grid}
use Rattle.ft_op.specs.WellFormed.{is_safe}
use Rattle.ft_op.specs.Written.{written, written_count, written_number, written_text}
use Rattle.ft_op.proofs.CanonicalOperations.{canonical_count, canonical_number, canonical_op, canonical_text, canonical_word}
use Rattle.ft_op.proofs.LevelsOfOperations.{op_levels}
use Rattle.ft_op.proofs.WrittenFields.{canonical_fields, fields_within}
use Rattle.ft_msg.specs.declared.messages.Body.{Body}
use Rattle.ft_msg.specs.declared.messages.Body.TheVariants.{Nothing, Op, Elsewhere}
use Rattle.ft_msg.specs.declared.messages.Draft.{Draft}
use Rattle.ft_msg.specs.declared.messages.Message.{Message}
use Rattle.ft_msg.specs.declared.messages.MsgKind.{MsgKind}
use Rattle.ft_msg.specs.declared.messages.MsgKind.TheVariants as kind
use Rattle.ft_msg.specs.Representable.{IsRepresentableBody, IsRepresentableKind, IsRepresentableMessage, IsRepresentableSender}
use Rattle.ft_msg.specs.WellFormed.{is_number, IsWellFormedBody, IsWellFormedDraft, IsWellFormedMessage}
use Rattle.ft_msg.specs.Written.{written_address, written_body, written_contents, written_draft, written_draft_kind, written_kind, written_message, written_sender}

-- ---- the fields of each form

abbrev pub contents_fields : Data → Data → List (List ℕ × Option Data)
contents_fields address contents = (codes "address", Some address) ∷ (codes "contents", Some contents) ∷ []

abbrev pub message_fields : Message → List (List ℕ × Option Data)
message_fields m =
    (codes "clientId", Some (written_sender m.client_id))
    ∷ (codes "clientSequenceNumber", Some (written_number m.client_seq))
    ∷ (codes "contents", Some (written_body m.body))
    ∷ (codes "minimumSequenceNumber", Some (written_count m.min))
    ∷ (codes "referenceSequenceNumber", Some (written_number m.ref_seq))
    ∷ (codes "sequenceNumber", Some (written_count m.seq))
    ∷ (codes "type", Some (written_kind m.kind))
    ∷ []

abbrev pub draft_fields : Draft → List (List ℕ × Option Data)
draft_fields d =
    (codes "clientSequenceNumber", Some (written_count d.client_seq))
    ∷ (codes "contents", Some (written_body d.body))
    ∷ (codes "referenceSequenceNumber", Some (written_count d.ref_seq))
    ∷ (codes "type", Some (written_draft_kind d.body))
    ∷ []

-- ---- canonical

below_one : (n : ℕ) → not (nat_lt 0 n) ≡ true → n ≡ 0
below_one n h = grind (arith, nat_tests)

safe_number : (z : ℤ) → IsTrue (is_number z) → IsTrue (is_safe z)
safe_number (pos n) h = h
safe_number (negsuc n) h =
    let parts = both (not (int_lt (negsuc n) (negsuc 0))) (not (int_lt (pos (2 ^ 53 - 1)) (negsuc n))) h in
    rw (below_one n parts.0)

canonical_small : (z : ℤ) → IsTrue (is_number z) → IsCanonical (written_number z)
canonical_small z h = canonical_number z (safe_number z h)

canonical_address : (op : ChannelOp) → IsCanonical (written_address op)
canonical_address (Text op) = canonical_word (codes "text") refl
canonical_address (Grid op) = canonical_word (codes "grid") refl

canonical_contents : (address contents : Data) → IsCanonical address → IsCanonical contents → IsCanonical (written_contents address contents)
canonical_contents address contents h g = canonical_fields (contents_fields address contents) refl (h, (g, tt))

canonical_body : (body : Body) → IsRepresentableBody body → IsWellFormedBody body → IsCanonical (written_body body)
canonical_body Nothing r h = tt
canonical_body (Op op) r h = canonical_contents (written_address op) (written op) (canonical_address op) (canonical_op op r h)
canonical_body (Elsewhere address) r h = canonical_contents (written_text address) null (canonical_text address r) tt

canonical_kind : (k : MsgKind) → IsRepresentableKind k → IsCanonical (written_kind k)
canonical_kind kind.Op r = canonical_word (codes "op") refl
canonical_kind kind.Join r = canonical_word (codes "join") refl
canonical_kind kind.Leave r = canonical_word (codes "leave") refl
canonical_kind kind.Noop r = canonical_word (codes "noop") refl
canonical_kind (kind.Other word) r = canonical_text word r

canonical_sender : (sender : Option Characters) → IsRepresentableSender sender → IsCanonical (written_sender sender)
canonical_sender None r = tt
canonical_sender (Some name) r = canonical_text name r

pub canonical_message : (m : Message) → IsRepresentableMessage m → IsWellFormedMessage m → IsCanonical (written_message m)
canonical_message m r h =
    canonical_fields (message_fields m) refl (
      canonical_sender m.client_id r.sender,
      (
        canonical_small m.client_seq h.client_seq,
        (
          canonical_body m.body r.body h.body,
          (canonical_count m.min h.min, (canonical_small m.ref_seq h.ref_seq, (canonical_count m.seq h.seq, (canonical_kind m.kind r.kind, tt)))),
        ),
      ),
    )

canonical_draft_kind : (body : Body) → IsCanonical (written_draft_kind body)
canonical_draft_kind Nothing = canonical_word (codes "noop") refl
canonical_draft_kind (Op op) = canonical_word (codes "op") refl
canonical_draft_kind (Elsewhere address) = canonical_word (codes "op") refl

pub canonical_draft : (d : Draft) → IsRepresentableBody d.body → IsWellFormedDraft d → IsCanonical (written_draft d)
canonical_draft d r h =
    canonical_fields (draft_fields d) refl (
      canonical_count d.client_seq h.client_seq,
      (canonical_body d.body r h.body, (canonical_count d.ref_seq h.ref_seq, (canonical_draft_kind d.body, tt))),
    )

-- ---- levels

body_levels : (body : Body) → IsWellFormedBody body → depth (written_body body) ≤ 106
body_levels Nothing h = omega arith
body_levels (Op (Text op)) h = omega (arith, op_levels (Text op) h)
body_levels (Op (Grid op)) h = omega (arith, op_levels (Grid op) h)
body_levels (Elsewhere address) h = omega arith

kind_levels : (k : MsgKind) → depth (written_kind k) ≤ 106
kind_levels kind.Op = omega arith
kind_levels kind.Join = omega arith
kind_levels kind.Leave = omega arith
kind_levels kind.Noop = omega arith
kind_levels (kind.Other word) = omega arith

sender_levels : (sender : Option Characters) → depth (written_sender sender) ≤ 106
sender_levels None = omega arith
sender_levels (Some name) = omega arith

pub message_levels : (m : Message) → IsWellFormedMessage m → depth (written_message m) ≤ 107
message_levels m h =
    let within = fields_within 106 (message_fields m) (
      sender_levels m.client_id,
      (omega arith, (body_levels m.body h.body, (omega arith, (omega arith, (omega arith, (kind_levels m.kind, tt)))))),
    ) in
    omega (arith, within)

draft_kind_levels : (body : Body) → depth (written_draft_kind body) ≤ 106
draft_kind_levels Nothing = omega arith
draft_kind_levels (Op op) = omega arith
draft_kind_levels (Elsewhere address) = omega arith

pub draft_levels : (d : Draft) → IsWellFormedDraft d → depth (written_draft d) ≤ 107
draft_levels d h =
    let within = fields_within 106 (draft_fields d) (omega arith, (body_levels d.body h.body, (omega arith, (draft_kind_levels d.body, tt)))) in
    omega (arith, within)
