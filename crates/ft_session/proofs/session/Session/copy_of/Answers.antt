-- A replica over another one's document.
use Rattle.std.proofs.Common.{◌≡◌, Some, Err, sym, subst}
use Rattle.std.specs.Prelude.{⊤, IfErr}
use Rattle.std.proofs.lemmas.Result.{IfOk-weaker}
use Rattle.ft_props.specs.Properties.{Characters}
use Rattle.ft_seqr.specs.Refusals.{refusal_of_summary}
use Rattle.ft_seqr.specs.World.{NaiveWorld, start_client}
use Rattle.ft_laws_sessions.specs.MadeWorlds.{IsMade}
use Rattle.ft_seqr.specs.RefusalKinds.{MeansOf, refusal_kind}
use Rattle.ft_session.specs.Worlds.{MemberState, SessionState, SessionStands}
use Rattle.ft_session.proofs.Entering.{copy-refused, copy-taken, copy-trimmed, copy-unknown, meets-at}
use Rattle.ft_session.proofs.OwnEvents.{handed-on}
use Rattle.ft_session.proofs.session.Session.copy_of.Goals as goal

pub returns-in_default-clause-err : goal.returns-in_default-clause-err
returns-in_default-clause-err g c = λ w made stands n.
    copy-unknown _ c.args.from.now w made (subst (λ (s : SessionState). SessionStands s w) (sym c.self.view_is) stands) n
    (sym (c.in_default.ensures (λ (m : MemberState). m.name) c.self.invariant))

pub summary_of-requires : goal.summary_of-requires
summary_of-requires g c =
    meets-at _ c.args.from.now c.requires.world c.requires.made (subst (λ (s : SessionState). SessionStands s c.requires.world) (sym c.self.view_is) c.requires.stands)
    c.in-Some.place c.index.result.now (sym (c.in-Some.ensures (λ (m : MemberState). m.name) c.self.invariant)) c.index.ensures

pub returns-in_err-summary-clause-err : goal.returns-in_err-summary-clause-err
returns-in_err-summary-clause-err g c =
    handed-on (λ r. IfErr r (λ why. (w : NaiveWorld) → IsMade w → SessionStands c.args.self.now w → (n : Characters) → MeansOf (refusal_kind why) ⊤ (start_client w n (Some c.args.from.now) ≡ Err why)))
    (refusal_of_summary c.in_err-summary.field-0.0) c.from_residual.result c.from_residual.ensures
    (λ w made stands n.
    copy-refused _ c.args.from.now w made (subst (λ (s : SessionState). SessionStands s w) (sym c.self.view_is) stands) c.in-Some.place c.index.result.now c.in_err-summary.field-0.0
    (sym (c.in-Some.ensures (λ (m : MemberState). m.name) c.self.invariant)) c.index.ensures c.in_err-summary.ensures n)

pub returns-clause-ok : goal.returns-clause-ok
returns-clause-ok g c = IfOk-weaker c.replica_over.result _ _ (λ r starts w made stands n free.
    copy-taken _ c.args.from.now w made (subst (λ (s : SessionState). SessionStands s w) (sym c.self.view_is) stands) c.in-Some.place c.index.result.now c.in_ok-summary.summary _
    (sym (c.in-Some.ensures (λ (m : MemberState). m.name) c.self.invariant)) c.index.ensures c.in_ok-summary.ensures starts.over
    starts.stands n free) c.replica_over.ensures.starts

pub returns-clause-trimmed : goal.returns-clause-trimmed
returns-clause-trimmed g c = IfOk-weaker c.replica_over.result _ _ (λ r starts w made stands d found.
    copy-trimmed _ c.args.from.now w made (subst (λ (s : SessionState). SessionStands s w) (sym c.self.view_is) stands) c.in-Some.place c.index.result.now c.in_ok-summary.summary _
    (sym (c.in-Some.ensures (λ (m : MemberState). m.name) c.self.invariant)) c.index.ensures c.in_ok-summary.ensures
    starts.over d found) c.replica_over.ensures.starts
