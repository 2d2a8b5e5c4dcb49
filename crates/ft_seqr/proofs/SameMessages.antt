-- The test of equality of messages decides equality.
use Rattle.std.proofs.Common.{◌≡◌, ℕ, ℤ, Bool, ◌&&◌, List, Option, Decides, bytes_eq, refl, ap, ap₂}
use Rattle.std.proofs.lemmas.Bool.Decides.{Decides-eqb}
use Rattle.std.proofs.lemmas.Slice.Eq.{bytes_eq-Decides}
use Rattle.ft_base.proofs.Booleans.{both}
use Rattle.ft_op.proofs.SameOperations.{same_int-Decides, same_op-Decides, same_option-Decides}
use Rattle.ft_msg.specs.declared.messages.Body.{Body}
use Rattle.ft_msg.specs.declared.messages.Body.TheVariants.{Nothing, Op, Elsewhere}
use Rattle.ft_msg.specs.declared.messages.Message.{Message}
use Rattle.ft_msg.specs.declared.messages.MsgKind.{MsgKind}
use Rattle.ft_msg.specs.declared.messages.MsgKind.TheVariants as kind
use Rattle.ft_seqr.specs.SameMessage.{same_body, same_kind, same_message}

pub same_kind-Decides : (k l : MsgKind) → Decides (same_kind k l) (k ≡ l)
same_kind-Decides kind.Op kind.Op = (λ h. refl, λ e. refl)
same_kind-Decides kind.Join kind.Join = (λ h. refl, λ e. refl)
same_kind-Decides kind.Leave kind.Leave = (λ h. refl, λ e. refl)
same_kind-Decides kind.Noop kind.Noop = (λ h. refl, λ e. refl)
same_kind-Decides (kind.Other word) (kind.Other other) =
    (λ h. ap kind.Other ((bytes_eq-Decides word other).0 h), λ e. let same : word ≡ other = cc in (bytes_eq-Decides word other).1 same)
same_kind-Decides kind.Op kind.Join = (λ h. (cc), λ e. (cc))
same_kind-Decides kind.Op kind.Leave = (λ h. (cc), λ e. (cc))
same_kind-Decides kind.Op kind.Noop = (λ h. (cc), λ e. (cc))
same_kind-Decides kind.Op (kind.Other other) = (λ h. (cc), λ e. (cc))
same_kind-Decides kind.Join kind.Op = (λ h. (cc), λ e. (cc))
same_kind-Decides kind.Join kind.Leave = (λ h. (cc), λ e. (cc))
same_kind-Decides kind.Join kind.Noop = (λ h. (cc), λ e. (cc))
same_kind-Decides kind.Join (kind.Other other) = (λ h. (cc), λ e. (cc))
same_kind-Decides kind.Leave kind.Op = (λ h. (cc), λ e. (cc))
same_kind-Decides kind.Leave kind.Join = (λ h. (cc), λ e. (cc))
same_kind-Decides kind.Leave kind.Noop = (λ h. (cc), λ e. (cc))
same_kind-Decides kind.Leave (kind.Other other) = (λ h. (cc), λ e. (cc))
same_kind-Decides kind.Noop kind.Op = (λ h. (cc), λ e. (cc))
same_kind-Decides kind.Noop kind.Join = (λ h. (cc), λ e. (cc))
same_kind-Decides kind.Noop kind.Leave = (λ h. (cc), λ e. (cc))
same_kind-Decides kind.Noop (kind.Other other) = (λ h. (cc), λ e. (cc))
same_kind-Decides (kind.Other word) kind.Op = (λ h. (cc), λ e. (cc))
same_kind-Decides (kind.Other word) kind.Join = (λ h. (cc), λ e. (cc))
same_kind-Decides (kind.Other word) kind.Leave = (λ h. (cc), λ e. (cc))
same_kind-Decides (kind.Other word) kind.Noop = (λ h. (cc), λ e. (cc))

pub same_body-Decides : (a b : Body) → Decides (same_body a b) (a ≡ b)
same_body-Decides Nothing Nothing = (λ h. refl, λ e. refl)
same_body-Decides (Op op) (Op other) = (λ h. ap Op ((same_op-Decides op other).0 h), λ e. let same : op ≡ other = cc in (same_op-Decides op other).1 same)
same_body-Decides (Elsewhere address) (Elsewhere other) =
    (λ h. ap Elsewhere ((bytes_eq-Decides address other).0 h), λ e. let same : address ≡ other = cc in (bytes_eq-Decides address other).1 same)
same_body-Decides Nothing (Op op) = (λ h. (cc), λ e. (cc))
same_body-Decides Nothing (Elsewhere other) = (λ h. (cc), λ e. (cc))
same_body-Decides (Op op) Nothing = (λ h. (cc), λ e. (cc))
same_body-Decides (Op op) (Elsewhere other) = (λ h. (cc), λ e. (cc))
same_body-Decides (Elsewhere address) Nothing = (λ h. (cc), λ e. (cc))
same_body-Decides (Elsewhere address) (Op other) = (λ h. (cc), λ e. (cc))

-- a test of one more part decides that part too
and_so : (a b : Bool) (A B : Type 0) → Decides a A → Decides b B → Decides (a && b) (A × B)
and_so a b A B p q = (λ h. let parts = both a b h in (p.0 parts.0, q.0 parts.1), λ c. ap₂ (λ (x y : Bool). x && y) (p.1 c.0) (q.1 c.1))

abbrev with_parts : Option (List ℕ) → ℕ → ℕ → ℤ → ℤ → MsgKind → Body → Message
with_parts client_id seq min client_seq ref_seq word body =
    record { client_id = client_id; seq = seq; min = min; client_seq = client_seq; ref_seq = ref_seq; kind = word; body = body }

same_parts : (a b : Option (List ℕ)) (c d e f : ℕ) (g h i j : ℤ) (k l : MsgKind) (m n : Body)
    → a ≡ b → c ≡ d → e ≡ f → g ≡ h → i ≡ j → k ≡ l → m ≡ n → with_parts a c e g i k m ≡ with_parts b d f h j l n
same_parts a b c d e f g h i j k l m n p q r s t u v = cc

pub same_message-Decides : (m n : Message) → Decides (same_message m n) (m ≡ n)
same_message-Decides m n =
    let first = and_so _ _ _ _ (same_option-Decides bytes_eq bytes_eq-Decides m.client_id n.client_id) (Decides-eqb m.seq n.seq) in
    let second = and_so _ _ _ _ first (Decides-eqb m.min n.min) in
    let third = and_so _ _ _ _ second (same_int-Decides m.client_seq n.client_seq) in
    let fourth = and_so _ _ _ _ third (same_int-Decides m.ref_seq n.ref_seq) in
    let fifth = and_so _ _ _ _ fourth (same_kind-Decides m.kind n.kind) in
    let whole = and_so _ _ _ _ fifth (same_body-Decides m.body n.body) in (
      λ h.
          let parts = whole.0 h in
          let five = parts.0 in
          let four = five.0 in
          let three = four.0 in
          let two = three.0 in
          let one = two.0 in
          same_parts _ _ _ _ _ _ _ _ _ _ _ _ _ _ one.0 one.1 two.1 three.1 four.1 five.1 parts.1,
      λ e. whole.1 (
        (
          ((((ap (λ (x : Message). x.client_id) e, ap (λ (x : Message). x.seq) e), ap (λ (x : Message). x.min) e), ap (λ (x : Message). x.client_seq) e), ap (λ (x : Message). x.ref_seq) e),
          ap (λ (x : Message). x.kind) e,
        ),
        ap (λ (x : Message). x.body) e,
      ),
    )
