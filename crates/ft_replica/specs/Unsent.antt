-- What a client hasn't sent yet.
use Rattle.std.specs.Prelude.{◌≡◌, ℕ, ◌+◌, List, [], ◌∷◌, ◌++◌, Option, Some, None, ⊤}
use Rattle.ft_op.specs.WellFormed.{IsWellFormed}
use Rattle.ft_msg.specs.declared.messages.Draft.{Draft}
use Rattle.ft_msg.specs.declared.messages.Body.TheVariants.{Op}
use Rattle.ft_msg.specs.Client.{SentAs}

-- the client sequence number of the next draft, and the drafts that aren't sent yet
pub record Unsent : Type 0 where
  pub next : ℕ
  pub drafts : List Draft

-- with the draft of an edit behind the others, if it is sent
abbrev pub with_sent : Option SentAs → ℕ → Unsent → Unsent
with_sent None ref_seq box = box
with_sent (Some sent) ref_seq box = record { next = box.next + 1; drafts = box.drafts ++ (record { client_seq = sent.client_seq; ref_seq = ref_seq; body = Op sent.op } ∷ []) }

-- as what an edit is sent, if it is, is well formed and has the number of the next draft
abbrev pub IsNextSent : Option SentAs → Unsent → Type 0
IsNextSent None box = ⊤
IsNextSent (Some sent) box = IsWellFormed sent.op × (sent.client_seq ≡ box.next)
