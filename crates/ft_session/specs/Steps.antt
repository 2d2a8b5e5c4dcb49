-- What a session answers to an event with its load.
use Rattle.std.specs.Prelude.{◌≡◌, ℕ, cond, nat_lt, Result, Ok, Err, ⊤}
use Rattle.ft_seqr.specs.declared.events.Event.{Event}
use Rattle.ft_seqr.specs.declared.refusals.Refusal.{Refusal}
use Rattle.ft_seqr.specs.World.{NaiveWorld, Output, Stepped, step}
use Rattle.ft_laws_sessions.specs.MadeWorlds.{IsMade}
use Rattle.ft_msg.specs.declared.views.Numbers.{Numbers}
use Rattle.ft_session.specs.declared.world.Furthest.{Furthest}
use Rattle.ft_session.specs.declared.world.Taken.{Taken}
use Rattle.ft_session.specs.Outputs.{Tells, counts_of}
use Rattle.ft_seqr.specs.RefusalKinds.{MeansOf, refusal_kind}
use Rattle.ft_session.specs.Worlds.{SessionState, SessionStands}

-- a session stands for a naive world of this load, which well-formed events made
pub record StandsAtLoad (w : NaiveWorld) (s : SessionState) (load : ℕ) : Type 0 where
  pub made : IsMade w
  pub stands : SessionStands s w
  pub loaded : load ≡ w.load

-- it does for some naive world
pub record StandsAtLoadForSome (s : SessionState) (load : ℕ) : Type 0 where
  pub world : NaiveWorld
  pub stands : StandsAtLoad world s load

-- the answer of a session that stood for a naive world to an event that becomes this
abbrev pub AnswersTaken : SessionState → SessionState → Stepped → Result Taken Refusal → Type 0
AnswersTaken old new stepped (Ok taken) =
    (p : NaiveWorld × Output) × (stepped ≡ Ok p) × StandsAtLoad p.0 new taken.load × (taken.counts ≡ counts_of p.0) × Tells p.1 taken.out
AnswersTaken old new stepped (Err why) = MeansOf (refusal_kind why) ⊤ ((new ≡ old) × (stepped ≡ Err why))

-- the same for each naive world for which it stands
pub record AnswersLoaded (e : Event) (old new : SessionState) (load : ℕ) (result : Result Taken Refusal) : Type 0 where
  pub world : (w : NaiveWorld) → StandsAtLoad w old load → AnswersTaken old new (step w e) result

-- the first, unless these numbers are further
abbrev pub further_numbers : Furthest → Numbers → Furthest
further_numbers f n = cond (nat_lt f.seq n.seq) (record { seq = n.seq; counts = record { skipped = n.skipped; other = n.other } }) f
