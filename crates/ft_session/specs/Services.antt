-- What orders the messages of a session answers.
use Rattle.std.specs.Prelude.{◌≡◌, ℕ, List, Some, None, Result, Ok, Err, ⊤}
use Rattle.ft_seqr.specs.declared.refusals.Refusal.{Refusal}
use Rattle.ft_seqr.specs.declared.refusals.Refusal.TheVariants.{NotConnected}
use Rattle.ft_msg.specs.declared.messages.Draft.{Draft}
use Rattle.ft_seqr.specs.World.{NaiveWorld, left, submit_all}
use Rattle.ft_seqr.specs.RefusalKinds.{MeansOf, refusal_kind}
use Rattle.ft_session.specs.Worlds.{ServiceState, service_of}

-- the naive world after a connection left, or why it can't
abbrev pub left_or_refused : ℕ → NaiveWorld → Result NaiveWorld Refusal
left_or_refused conn w = elim (left conn w) [ None ↦ Err NotConnected | Some v ↦ Ok v ]

-- the answer to a step that makes this of the naive world
abbrev pub AnswersService : ServiceState → ServiceState → Result NaiveWorld Refusal → Result (Unit {0}) Refusal → Type 0
AnswersService old new made (Ok _) = (v : NaiveWorld) × (made ≡ Ok v) × (new ≡ service_of v)
AnswersService old new made (Err why) = MeansOf (refusal_kind why) ⊤ ((new ≡ old) × (made ≡ Err why))

-- the drafts of the connection can be numbered in some naive world
pub record CanSubmit (s : ServiceState) (conn : ℕ) (drafts : List Draft) : Type 0 where
  pub world : NaiveWorld
  pub service : s ≡ service_of world
  pub after : NaiveWorld
  pub submits : submit_all world conn drafts ≡ Ok after
