use Rattle.std.proofs.Common.{◌≡◌, ◌∷◌, ◌++◌, [], subst, rules}
use Rattle.ft_msg.specs.declared.views.Link.TheVariants.{Joining}
use Rattle.ft_msg.specs.Client.{connect}
use Rattle.ft_replica.specs.Linked.{Takes}
use Rattle.ft_replica.proofs.LinkedSteps.{connect-takes, state}
use Rattle.ft_replica.proofs.linked.LinkedClient.connect.Goals as goal

pub returns : goal.returns
returns g c =
    let i = c.self.inside in
    let holds = g.D.OwnDocument.holds in
    let conn = c.args.conn in
    let old = state i.doc i.link i.conns i.last_stage i.outbox i.pending in
    let new = state i.doc (Joining conn) c.push.new.self i.last_stage c.restart.new.self i.pending in
    let is : new ≡ state i.doc (Joining conn) (i.conns ++ (conn ∷ [])) i.last_stage (record i.outbox { next = 1 }) i.pending = search rules in
    subst (λ s. Takes holds (λ p. connect p conn) s new) c.self.view_is (connect-takes holds conn old new c.in-Offline.is is)
