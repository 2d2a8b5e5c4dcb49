use Rattle.std.proofs.Common.{◌≡◌, [], ap, subst}
use Rattle.ft_msg.specs.declared.views.Link.TheVariants.{Offline}
use Rattle.ft_msg.specs.Client.{drop_link}
use Rattle.ft_replica.specs.Linked.{Takes}
use Rattle.ft_replica.proofs.LinkedSteps.{drop-takes, state}
use Rattle.ft_replica.proofs.linked.LinkedClient.drop_link.Goals as goal

pub returns-clause-answers : goal.returns-clause-answers
returns-clause-answers g c =
    let i = c.self.inside in
    let holds = g.D.OwnDocument.holds in
    let old = state i.doc i.link i.conns i.last_stage i.outbox i.pending in
    let new = state i.doc Offline i.conns i.last_stage c.clear.new.self i.pending in
    let is : new ≡ state i.doc Offline i.conns i.last_stage (record i.outbox { drafts = [] }) i.pending = ap (λ box. state i.doc Offline i.conns i.last_stage box i.pending) c.clear.ensures in
    subst (λ s. Takes holds drop_link s new) c.self.view_is (drop-takes holds old new c.in_default.not-Offline is)
