-- What a session answers, by its view.
use Rattle.std.proofs.Common.{◌≡◌, Result, Ok, Err, subst}
use Rattle.std.specs.Prelude.{IfOk}
use Rattle.std.specs.Result.{IsErr, IsErrAnd}
use Rattle.ft_seqr.specs.declared.refusals.Refusal.{Refusal}
use Rattle.ft_seqr.specs.World.{NaiveWorld, Stepped}
use Rattle.ft_session.specs.declared.outputs.Out.{Out}
use Rattle.ft_session.specs.Outputs.{WritesAs}
use Rattle.ft_session.specs.Worlds.{AnswersHappening, SessionState}
use Rattle.ft_session.proofs.OwnEvents.{handed-on, written-known}

pub session-view : {event : NaiveWorld → Stepped} {s old new : SessionState} {result : Result Out Refusal} → s ≡ old → AnswersHappening event s new result
    → AnswersHappening event old new result
session-view {event} {s} {old} {new} {result} e a = subst (λ o. AnswersHappening event o new result) e a

-- the same where nothing changed
pub session-same : {event : NaiveWorld → Stepped} {s old : SessionState} {result : Result Out Refusal} → s ≡ old → AnswersHappening event s s result
    → AnswersHappening event old old result
session-same {event} {s} {old} {result} e a = subst (λ o. AnswersHappening event o o result) e a

-- what is written, if there was memory for it
pub session-written : {A E : Type 0} {event : NaiveWorld → Stepped} {old new : SessionState} (written : A → Out) (a : A) (x : Result A E)
    (result : Result Out Refusal) → IfOk x (λ b. b ≡ a) → WritesAs written x result → AnswersHappening event old new (Ok (written a))
    → AnswersHappening event old new result
session-written {A} {E} {event} {old} {new} written a x result e w h =
    written-known (λ r. AnswersHappening event old new r) written a x result (record { world = λ v made stands. tt }) e h w

-- a refusal that `?` hands on
pub session-handed : {event : NaiveWorld → Stepped} {old new : SessionState} (why : Refusal) (result : Result Out Refusal) → IsErr result × IsErrAnd result (λ w. w ≡ why)
    → AnswersHappening event old new (Err why) → AnswersHappening event old new result
session-handed {event} {old} {new} why result h a = handed-on (λ r. AnswersHappening event old new r) why result h a
