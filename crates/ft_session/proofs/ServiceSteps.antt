-- What orders the messages answers.
use Rattle.std.proofs.Common.{◌≡◌, ℕ, [], ◌∷◌, ◌++◌, Option, Some, None, Result, Ok, Err, sym, ◌∙◌, ap}
use Rattle.ft_msg.specs.declared.messages.Draft.{Draft}
use Rattle.ft_msg.specs.declared.messages.Entry.{Entry}
use Rattle.ft_seqr.specs.declared.nacks.Nack.{Nack}
use Rattle.ft_seqr.specs.declared.refusals.Refusal.{Refusal}
use Rattle.ft_seqr.specs.declared.refusals.Refusal.TheVariants.{Nacked, NotConnected}
use Rattle.ft_seqr.specs.Sequencer.{NaiveSequencer, leave, submit}
use Rattle.ft_seqr.specs.World.{NaiveWorld, logged, submit_all}
use Rattle.ft_session.specs.Services.{AnswersService, left_or_refused}
use Rattle.ft_session.specs.Worlds.{ServiceState, service_of}

-- the service with a message more
abbrev pub with_entry : ServiceState → NaiveSequencer → Entry → ServiceState
with_entry s q entry = record s { sequencer = q; log = s.log ++ (entry ∷ []) }

abbrev after_leaving : NaiveWorld → Option (NaiveSequencer × Entry) → Result NaiveWorld Refusal
after_leaving w o = elim (elim o as (λ _. Option NaiveWorld) [ None ↦ None | Some p ↦ Some (logged p w) ]) as (λ _. Result NaiveWorld Refusal) [ None ↦ Err NotConnected | Some v ↦ Ok v ]

pub leave-told : (conn : ℕ) (s : ServiceState) (q : NaiveSequencer) (entry : Entry) → leave s.sequencer conn ≡ Some (q, entry) → (w : NaiveWorld) → s ≡ service_of w
    → AnswersService s (with_entry s q entry) (left_or_refused conn w) (Ok tt)
leave-told conn s q entry h w e = (
  logged (q, entry) w,
  ap (after_leaving w) (ap (λ (a : ServiceState). leave a.sequencer conn) (sym e) ∙ h),
  ap (λ a. with_entry a q entry) e,
)

abbrev after_submission : NaiveWorld → Result (NaiveSequencer × Entry) Nack → Result NaiveWorld Refusal
after_submission w r = elim r as (λ _. Result NaiveWorld Refusal) [ Err nack ↦ Err (Nacked nack) | Ok p ↦ Ok (logged p w) ]

pub submit-told : (conn : ℕ) (d : Draft) (s : ServiceState) (q : NaiveSequencer) (entry : Entry) → submit s.sequencer conn d ≡ Ok (q, entry) → (w : NaiveWorld) → s ≡ service_of w
    → AnswersService s (with_entry s q entry) (submit_all w conn (d ∷ [])) (Ok tt)
submit-told conn d s q entry h w e = (
  logged (q, entry) w,
  ap (after_submission w) (ap (λ (a : ServiceState). submit a.sequencer conn d) (sym e) ∙ h),
  ap (λ a. with_entry a q entry) e,
)
