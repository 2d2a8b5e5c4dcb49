use Rattle.std.proofs.Common.{◌≡◌, None, subst, sym, ◌∙◌}
use Rattle.ft_msg.specs.Answers.{ReplicaState, view_content}
use Rattle.ft_msg.specs.Client.{NaiveClient}
use Rattle.ft_msg.specs.Compacted.{StandsFor}
use Rattle.ft_msg.specs.Content.{content}
use Rattle.ft_msg.specs.Reached.{IsReached}
use Rattle.ft_replica.specs.Linked.{Anyone}
use Rattle.ft_replica.proofs.Replicas.{kept-linked, named-kept, runs-now, shows-all, told-runs}
use Rattle.ft_replica.proofs.replica.ReplicaOverReplica.view.Goals as goal

pub view-requires : goal.view-requires
view-requires g c =
    let i = c.self.inside in
    let D = g.D.OwnDocument in
    told-runs D.holds D.shown g.met.D.OwnDocument.shows i.client c.client.result.now i.nameless Anyone c.self.invariant (sym c.stop.ensures ∙ c.in_default.is) c.client.ensures tt

-- what it shows of one client is what each shows for which it stands
pub returns-clause-content : goal.returns-clause-content
returns-clause-content g c =
    let i = c.self.inside in
    let D = g.D.OwnDocument in
    let shows = g.met.D.OwnDocument.shows in
    let runs : i.client.stop ≡ None = sym c.stop.ensures ∙ c.in_default.is in
    let k = c.self.invariant runs in
    let here = c.in_ok-view.ensures.content k.low k.kept (named-kept D.holds D.shown shows i.client i.nameless c.self.invariant runs)
    (kept-linked D.holds D.shown shows i.client c.client.result.now i.nameless c.self.invariant runs c.client.ensures) in
    subst (λ (s : ReplicaState). (s.stop ≡ None) × ((x : NaiveClient) → IsReached x → StandsFor s.client x → view_content c.in_ok-view.field-0 ≡ content x)) c.self.view_is
    (runs-now D.holds D.shown shows i.client runs, λ x reached stands. here ∙ (shows-all D.holds D.shown shows i.client i.nameless c.self.invariant runs x reached stands).content)
