use Rattle.std.proofs.Common.{subst, sym, ap, ◌∙◌}
use Rattle.ft_replica.specs.Linked.{LinkedState}
use Rattle.ft_replica.proofs.LinkedEntries.{joins-answers, owns-answers, takes-entry}
use Rattle.ft_replica.proofs.LinkedSteps.{state}
use Rattle.ft_replica.proofs.linked.LinkedClient.take.Goals as goal

pub returns-then-is_own_join : goal.returns-then-is_own_join
returns-then-is_own_join g c =
    joins-answers g.D.OwnDocument.holds c.args.entry.now c.args.self.now c.come_online.new.self (sym c.is_own_join.ensures ∙ c.if-is_own_join.true) c.come_online.result c.come_online.ensures

pub returns-then-is_own_message : goal.returns-then-is_own_message
returns-then-is_own_message g c =
    owns-answers g.D.OwnDocument.holds c.args.entry.now c.args.self.now c.take_own.new.self (sym c.is_own_join.ensures ∙ c.if-is_own_join.false)
    (sym c.is_own_message.ensures ∙ c.if-is_own_message.true) c.take_own.result c.take_own.ensures

pub returns : goal.returns
returns g c =
    let i = c.self.inside in
    let holds = g.D.OwnDocument.holds in
    let d = c.take.new.self in
    let new = state d i.link i.conns i.last_stage i.outbox i.pending in
    takes-entry holds c.args.entry.now c.args.self.now new (sym c.is_own_join.ensures ∙ c.if-is_own_join.false) (sym c.is_own_message.ensures ∙ c.if-is_own_message.false)
    (λ held named h. c.in_ok-take.ensures held named (subst (λ (s : LinkedState _). holds s.document held) (sym c.self.view_is) h))
    (ap (λ (s : LinkedState _). record s { document = d }) c.self.view_is)
