-- What is asked of a message or a draft before it may be written or processed: its numbers are in range, it has a body exactly
-- where its type is `op`, an operation has a sender, and words and addresses that are kept are none that have a kind of their
-- own.
use Rattle.std.specs.Prelude.{◌<◌, ◌-◌, ℤ, pos, negsuc, Bool, true, false, codes, bytes_eq, is_some, IsTrue, IsFalse, Option, ⊤}
use Rattle.ft_json.specs.Bounds.{number_limit}
use Rattle.ft_json.specs.Reading.{is_within}
use Rattle.ft_props.specs.Properties.{Characters}
use Rattle.ft_op.specs.WellFormed.{is_count, IsWellFormed}
use Rattle.ft_msg.specs.declared.messages.Body.{Body}
use Rattle.ft_msg.specs.declared.messages.Body.TheVariants.{Nothing, Op, Elsewhere}
use Rattle.ft_msg.specs.declared.messages.Draft.{Draft}
use Rattle.ft_msg.specs.declared.messages.Message.{Message}
use Rattle.ft_msg.specs.declared.messages.MsgKind.{MsgKind}
use Rattle.ft_msg.specs.declared.messages.MsgKind.TheVariants as kind

-- its sequence number and its minimum are below 2^53
pub record HasNumbersInRange (m : Message) : Type 0 where
  pub seq : m.seq < number_limit
  pub min : m.min < number_limit

-- whether it is a whole number from -1 to 9007199254740991
abbrev pub is_number : ℤ → Bool
is_number z = is_within (negsuc 0) (pos (number_limit - 1)) z

-- an operation is well formed, and another address is neither the text's nor the grid's
abbrev pub IsWellFormedBody : Body → Type 0
IsWellFormedBody Nothing = ⊤
IsWellFormedBody (Op op) = IsWellFormed op
IsWellFormedBody (Elsewhere address) = IsFalse (bytes_eq address (codes "text")) × IsFalse (bytes_eq address (codes "grid"))

-- another word is none of the four
abbrev pub IsWellFormedKind : MsgKind → Type 0
IsWellFormedKind (kind.Other word) =
    IsFalse (bytes_eq word (codes "op")) × IsFalse (bytes_eq word (codes "join")) × IsFalse (bytes_eq word (codes "leave")) × IsFalse (bytes_eq word (codes "noop"))
IsWellFormedKind _ = ⊤

-- whether there is a body
abbrev pub has_body : Body → Bool
has_body Nothing = false
has_body (Op op) = true
has_body (Elsewhere address) = true

-- an operation has a sender and a body, and no other message has a body
abbrev pub HasItsParts : MsgKind → Option Characters → Body → Type 0
HasItsParts kind.Op sender body = IsTrue (is_some sender) × IsTrue (has_body body)
HasItsParts _ sender body = IsFalse (has_body body)

pub record IsWellFormedMessage (m : Message) : Type 0 where
  pub seq : IsTrue (is_count m.seq)
  pub min : IsTrue (is_count m.min)
  pub client_seq : IsTrue (is_number m.client_seq)
  pub ref_seq : IsTrue (is_number m.ref_seq)
  pub kind : IsWellFormedKind m.kind
  pub parts : HasItsParts m.kind m.client_id m.body
  pub body : IsWellFormedBody m.body

-- a draft without a body is a noop
pub record IsWellFormedDraft (d : Draft) : Type 0 where
  pub client_seq : IsTrue (is_count d.client_seq)
  pub ref_seq : IsTrue (is_count d.ref_seq)
  pub body : IsWellFormedBody d.body
