-- Which message or draft a text is, or its first fault in the order in which its fields are tested.
use Rattle.std.specs.Prelude.{ℕ, Bool, true, false, List, Option, Some, None, Result, Ok, Err, chars, codes, bytes_eq, if◌then◌else◌}
use Rattle.serde_json.specs.Data.{Data}
use Rattle.serde_json.specs.Find.{as_str}
use Rattle.ft_json.specs.declared.fields.Field.TheVariants.{Address, ClientId, ClientSequenceNumber, Contents, Kind, Message as WholeMessage, MinimumSequenceNumber, ReferenceSequenceNumber, SequenceNumber}
use Rattle.ft_json.specs.Reading.{count_field, field, given_field, num_field, read_line, str_field}
use Rattle.ft_op.specs.declared.operations.ChannelOp.TheVariants.{Text, Grid}
use Rattle.ft_op.specs.Reading.{◌>>=◌, is_object, with_fault}
use Rattle.ft_op.specs.TextGrammar.{text_op}
use Rattle.ft_op.specs.GridGrammar.{grid_op}
use Rattle.ft_msg.specs.declared.faults.Cause.{Cause}
use Rattle.ft_msg.specs.declared.faults.Cause.TheVariants as cause
use Rattle.ft_msg.specs.Causes.{cause_of_field, cause_of_json, cause_of_op}
use Rattle.ft_msg.specs.declared.messages.Message.{Message}
use Rattle.ft_msg.specs.declared.messages.Draft.{Draft}
use Rattle.ft_msg.specs.declared.messages.MsgKind.{MsgKind}
use Rattle.ft_msg.specs.declared.messages.MsgKind.TheVariants as kinds
use Rattle.ft_msg.specs.declared.messages.Body.{Body}
use Rattle.ft_msg.specs.declared.messages.Body.TheVariants.{Nothing, Op, Elsewhere}

-- ---- contents

-- the operation of the text that a value is, as a body
unfoldable pub text_body : Data → Result Body Cause
text_body d = do
  op ← with_fault cause_of_op (text_op d)
  Ok (Op (Text op))

-- the operation of the grid that a value is, as a body
unfoldable pub grid_body : Data → Result Body Cause
grid_body d = do
  op ← with_fault cause_of_op (grid_op d)
  Ok (Op (Grid op))

-- the operation that the field `contents` of contents is, which has to be there
abbrev pub needed_body : (Data → Result Body Cause) → Option Data → Result Body Cause
needed_body reads None = Err (cause.Missing Contents)
needed_body reads (Some d) = reads d

-- the body that contents for the address of these characters are
abbrev pub body_for : Data → List ℕ → Result Body Cause
body_for d address =
    if bytes_eq address (codes "text") then needed_body text_body (field d Contents)
    else (if bytes_eq address (codes "grid") then needed_body grid_body (field d Contents) else Ok (Elsewhere address))

-- the body that contents are whose field `address` has this string
abbrev pub addressed : Data → Option (List ℕ) → Result Body Cause
addressed d None = Err (cause.WrongKind Address)
addressed d (Some text) = body_for d (chars text)

-- the body that contents are whose field `address` is this; without it they are an operation of the text
abbrev pub contents_with : Data → Option Data → Result Body Cause
contents_with d None = text_body d
contents_with d (Some address) = addressed d (as_str address)

-- the body that contents are
unfoldable pub contents_body : Data → Result Body Cause
contents_body d = if is_object d then contents_with d (field d Address) else Err (cause.WrongKind Contents)

-- the body of a message or a draft that is an operation: its field `contents` has to be there
unfoldable pub op_body : Data → Result Body Cause
op_body d = needed_body contents_body (field d Contents)

-- ---- messages

-- the kind of a message, by the characters of its field `type`
abbrev pub kind_of : List ℕ → MsgKind
kind_of word =
    if bytes_eq word (codes "op") then kinds.Op
    else (if bytes_eq word (codes "join") then kinds.Join
    else (if bytes_eq word (codes "leave") then kinds.Leave
    else (if bytes_eq word (codes "noop") then kinds.Noop else kinds.Other word)))

-- whether it is that of an operation
abbrev pub is_op_kind : MsgKind → Bool
is_op_kind kinds.Op = true
is_op_kind kinds.Join = false
is_op_kind kinds.Leave = false
is_op_kind kinds.Noop = false
is_op_kind (kinds.Other word) = false

-- the name of the connection that sent a message, which is a string
abbrev pub named_sender : Option (List ℕ) → Result (Option (List ℕ)) Cause
named_sender None = Err (cause.WrongKind ClientId)
named_sender (Some text) = Ok (Some (chars text))

-- the name of the connection that sent a message of this kind: absent or null is none, which an operation may not have
abbrev pub sender_of : MsgKind → Option Data → Result (Option (List ℕ)) Cause
sender_of kind None = if is_op_kind kind then Err (cause.WrongKind ClientId) else Ok None
sender_of kind (Some d) = named_sender (as_str d)

-- the body of a message of this kind: nothing where it isn't an operation
abbrev pub body_of : MsgKind → Data → Result Body Cause
body_of kind d = if is_op_kind kind then op_body d else Ok Nothing

-- the message that a value is
unfoldable pub message_of : Data → Result Message Cause
message_of d =
    if is_object d then
    (do
      seq ← with_fault cause_of_field (count_field d SequenceNumber)
      min ← with_fault cause_of_field (count_field d MinimumSequenceNumber)
      client_seq ← with_fault cause_of_field (num_field d ClientSequenceNumber)
      ref_seq ← with_fault cause_of_field (num_field d ReferenceSequenceNumber)
      word ← with_fault cause_of_field (str_field d Kind)
      sender ← sender_of (kind_of (chars word)) (given_field d ClientId)
      body ← body_of (kind_of (chars word)) d
      Ok (record { client_id = sender; seq = seq; min = min; client_seq = client_seq; ref_seq = ref_seq; kind = kind_of (chars word); body = body }))
    else Err (cause.WrongKind WholeMessage)

-- the message that a text is
unfoldable pub message : List ℕ → Result Message Cause
message bytes = do
  d ← with_fault cause_of_json (read_line bytes)
  message_of d

-- ---- drafts

-- the body of a draft of this type: an operation, or nothing for a noop
abbrev pub draft_body : Data → List ℕ → Result Body Cause
draft_body d word =
    if bytes_eq word (codes "op") then op_body d
    else (if bytes_eq word (codes "noop") then Ok Nothing else Err (cause.WrongKind Kind))

-- the draft that a value is
unfoldable pub draft_of : Data → Result Draft Cause
draft_of d =
    if is_object d then
    (do
      client_seq ← with_fault cause_of_field (count_field d ClientSequenceNumber)
      ref_seq ← with_fault cause_of_field (count_field d ReferenceSequenceNumber)
      word ← with_fault cause_of_field (str_field d Kind)
      body ← draft_body d word
      Ok (record { client_seq = client_seq; ref_seq = ref_seq; body = body }))
    else Err (cause.WrongKind WholeMessage)

-- the draft that a text is
unfoldable pub draft : List ℕ → Result Draft Cause
draft bytes = do
  d ← with_fault cause_of_json (read_line bytes)
  draft_of d
