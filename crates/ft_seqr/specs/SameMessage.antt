-- Whether two messages are equal, as a test that computes.
use Rattle.std.specs.Prelude.{Bool, true, false, ◌&&◌, nat_eq, bytes_eq}
use Rattle.ft_op.specs.Same.{same_int, same_op, same_option}
use Rattle.ft_msg.specs.declared.messages.Body.{Body}
use Rattle.ft_msg.specs.declared.messages.Body.TheVariants.{Nothing, Op, Elsewhere}
use Rattle.ft_msg.specs.declared.messages.Message.{Message}
use Rattle.ft_msg.specs.declared.messages.MsgKind.{MsgKind}
use Rattle.ft_msg.specs.declared.messages.MsgKind.TheVariants as kind

-- whether two kinds are equal
abbrev pub same_kind : MsgKind → MsgKind → Bool
same_kind kind.Op kind.Op = true
same_kind kind.Join kind.Join = true
same_kind kind.Leave kind.Leave = true
same_kind kind.Noop kind.Noop = true
same_kind (kind.Other word) (kind.Other other) = bytes_eq word other
same_kind _ _ = false

-- whether two bodies are equal
abbrev pub same_body : Body → Body → Bool
same_body Nothing Nothing = true
same_body (Op op) (Op other) = same_op op other
same_body (Elsewhere address) (Elsewhere other) = bytes_eq address other
same_body _ _ = false

-- whether two messages are equal
abbrev pub same_message : Message → Message → Bool
same_message m n =
    same_option bytes_eq m.client_id n.client_id && nat_eq m.seq n.seq && nat_eq m.min n.min && same_int m.client_seq n.client_seq && same_int m.ref_seq n.ref_seq
    && same_kind m.kind n.kind && same_body m.body n.body
