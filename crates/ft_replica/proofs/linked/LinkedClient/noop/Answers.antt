use Rattle.std.proofs.Common.{◌≡◌, ◌+◌, ◌∷◌, ◌++◌, [], subst, rules}
use Rattle.ft_msg.specs.declared.messages.Body.TheVariants.{Nothing}
use Rattle.ft_msg.specs.Client.{noop}
use Rattle.ft_replica.specs.Linked.{Takes}
use Rattle.ft_replica.proofs.LinkedSteps.{noop-takes, state}
use Rattle.ft_replica.proofs.linked.LinkedClient.noop.Goals as goal

pub returns : goal.returns
returns g c =
    let i = c.self.inside in
    let holds = g.D.OwnDocument.holds in
    let number = c.number.result in
    let old = state i.doc i.link i.conns i.last_stage i.outbox i.pending in
    let new = state i.doc i.link i.conns i.last_stage c.push.new.self i.pending in
    let is : new ≡ record old {
      box = record { next = i.outbox.next + 1; drafts = i.outbox.drafts ++ (record { client_seq = i.outbox.next; ref_seq = number; body = Nothing } ∷ []) };
    } = search rules in
    subst (λ s. Takes holds noop s new) c.self.view_is
    (noop-takes holds c.in-Online.conn number g.D.OwnDocument.shown old new g.met.D.OwnDocument.shows c.in-Online.is c.number.ensures.told is)
