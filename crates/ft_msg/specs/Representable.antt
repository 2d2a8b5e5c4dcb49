-- What the types of the code promise of each message and draft: the characters of texts are Unicode scalar values, and keys
-- rise.
use Rattle.std.specs.Prelude.{Option, Some, None, ⊤}
use Rattle.ft_props.specs.Properties.{Characters}
use Rattle.ft_op.specs.Representable.{IsRepresentable, IsText}
use Rattle.ft_msg.specs.declared.messages.Body.{Body}
use Rattle.ft_msg.specs.declared.messages.Body.TheVariants.{Nothing, Op, Elsewhere}
use Rattle.ft_msg.specs.declared.messages.Message.{Message}
use Rattle.ft_msg.specs.declared.messages.MsgKind.{MsgKind}
use Rattle.ft_msg.specs.declared.messages.MsgKind.TheVariants as kind

abbrev pub IsRepresentableBody : Body → Type 0
IsRepresentableBody Nothing = ⊤
IsRepresentableBody (Op op) = IsRepresentable op
IsRepresentableBody (Elsewhere address) = IsText address

abbrev pub IsRepresentableKind : MsgKind → Type 0
IsRepresentableKind (kind.Other word) = IsText word
IsRepresentableKind _ = ⊤

abbrev pub IsRepresentableSender : Option Characters → Type 0
IsRepresentableSender None = ⊤
IsRepresentableSender (Some name) = IsText name

pub record IsRepresentableMessage (m : Message) : Type 0 where
  pub sender : IsRepresentableSender m.client_id
  pub kind : IsRepresentableKind m.kind
  pub body : IsRepresentableBody m.body
